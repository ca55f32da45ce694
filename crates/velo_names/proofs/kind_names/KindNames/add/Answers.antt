use Rattle.std.proofs.Common.{◌≡◌, nat_eq, ap, sym, subst, ◌∙◌, Ok}
use Rattle.std.specs.Prelude.{OnOk}
use Rattle.indexmap.specs.IndexMap.{insert_entry}
use Rattle.velo_names.specs.Answers.{IsIndexOf, list_in}
use Rattle.velo_names.specs.Names.{list_with}
use Rattle.velo_names.proofs.OnLists.{index_of_more, named_now, named_twice, one_more}
use Rattle.velo_names.proofs.kind_names.KindNames.add.Goals as goal

pub returns-then-contains_key : goal.returns-then-contains_key
returns-then-contains_key c =
    ap (λ list. list_with list c.args.number c.args.name.now c.args.line) (sym c.self.view_is)
    ∙ named_twice c.self.inside.names.entries c.args.number c.args.name.now c.args.line (sym c.contains_key.ensures ∙ c.if-contains_key.true)

pub invariant_of-self-2 : goal.invariant_of-self-2
invariant_of-self-2 c =
    let new = c.insert.new.self in
    let room = c.make_room.new.names in
    let es : new.entries ≡ insert_entry nat_eq room.entries c.args.number c.args.name =
    subst (λ r. OnOk r (new.entries ≡ insert_entry nat_eq room.entries c.args.number c.args.name)) c.unwrap.ensures c.insert.ensures.entries in
    let more = one_more c.self.inside.names room new c.args.number c.args.name c.in_ok-make_room.ensures.names (sym c.contains_key.ensures ∙ c.if-contains_key.false) es in
    subst (λ list. IsIndexOf list c.note.new.index) (sym more)
    (index_of_more (list_in c.self.inside.names) c.self.inside.numbers c.note.new.index c.args.number c.args.name c.self.invariant c.in_ok-note.ensures.ok)

pub returns : goal.returns
returns c =
    let new = c.insert.new.self in
    let room = c.make_room.new.names in
    let es : new.entries ≡ insert_entry nat_eq room.entries c.args.number c.args.name =
    subst (λ r. OnOk r (new.entries ≡ insert_entry nat_eq room.entries c.args.number c.args.name)) c.unwrap.ensures c.insert.ensures.entries in
    ap (λ list. list_with list c.args.number c.args.name.now c.args.line) (sym c.self.view_is)
    ∙ named_now c.self.inside.names.entries c.args.number c.args.name.now c.args.line (sym c.contains_key.ensures ∙ c.if-contains_key.false)
    ∙ ap Ok (sym (one_more c.self.inside.names room new c.args.number c.args.name c.in_ok-make_room.ensures.names (sym c.contains_key.ensures ∙ c.if-contains_key.false) es))
