use Rattle.std.proofs.Common.{◌≡◌, ◌++◌, ◌∷◌, [], List, ℕ, refl, sym, ap, ◌∙◌, append_assoc}
use Rattle.json.specs.Token.{Token}
use Rattle.json.specs.Print.{separator, token_text}
use Rattle.velo_finding.specs.Writing.{token_of}
use Rattle.velo_finding.proofs.OnWriter.{pushed, pushed_tokens}
use Rattle.velo_finding.proofs.writer.JsonWriter.token.Goals as goal

pub invariant_of-result : goal.invariant_of-result
invariant_of-result c =
    let t = token_of c.args.token in
    pushed c.self.inside (record { text = c.add_token.new.text; after_value = c.ends.result }) c.self.invariant t c.add_token.ensures.printable c.ends.ensures
    (c.in_ok-add_token.ensures.text ∙ ap (λ (l : List ℕ). l ++ token_text t) c.in_ok-add_separator.ensures ∙ append_assoc c.self.inside.text.items (separator c.self.inside.after_value t) (token_text t))

pub returns : goal.returns
returns c =
    let t = token_of c.args.token in
    pushed_tokens c.self.inside (record { text = c.add_token.new.text; after_value = c.ends.result }) c.self.invariant t c.add_token.ensures.printable c.ends.ensures
    (c.in_ok-add_token.ensures.text ∙ ap (λ (l : List ℕ). l ++ token_text t) c.in_ok-add_separator.ensures ∙ append_assoc c.self.inside.text.items (separator c.self.inside.after_value t) (token_text t))
    ∙ ap (λ (ts : List Token). ts ++ t ∷ []) c.self.view_is
