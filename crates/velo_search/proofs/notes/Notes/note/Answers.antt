use Rattle.std.proofs.Common.{◌<◌, [], length, map, sym, subst, rules}
use Rattle.std.specs.Prelude.{slice_index_or, slice_set}
use Rattle.velo_search.specs.Notes.{IsAmong, IsNoteOf}
use Rattle.velo_search.proofs.OnNoting.{list-kept, list-only, list-set_same}
use Rattle.velo_search.proofs.notes.Notes.note.Goals as goal

pub returns-clause-before : goal.returns-clause-before
returns-clause-before c =
    let lists = c.args.self.now.lists.items in
    let within : c.list_of.result < length lists = search rules in
    list-kept (λ v. v.items) lists c.list_of.result c.index_mut.result.now c.put.new.list within c.index_mut.ensures.value c.in_ok-put.ensures.before

pub returns-clause-there : goal.returns-clause-there
returns-clause-there c = λ _.
    let lists = c.args.self.now.lists.items in
    let at = c.list_of.result in
    let own = c.put.new.list in
    let held = c.args.held.now.locks.items in
    let within : at < length lists = search rules in
    subst (λ n. IsAmong (slice_index_or (map (λ v. v.items) (slice_set lists at own)) n []) c.args.thread c.args.kind held) c.list_of.ensures
    (subst (λ notes. IsAmong notes c.args.thread c.args.kind held) (sym (list-set_same (λ v. v.items) lists at own within)) c.in_ok-put.ensures.there)

pub returns-clause-only : goal.returns-clause-only
returns-clause-only c =
    let lists = c.args.self.now.lists.items in
    let within : c.list_of.result < length lists = search rules in
    list-only (λ v. v.items) lists (IsNoteOf c.args.thread c.args.kind c.args.held.now.locks.items) c.list_of.result c.index_mut.result.now c.put.new.list within c.index_mut.ensures.value c.in_ok-put.ensures.only
