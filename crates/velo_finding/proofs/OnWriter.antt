-- What a writer shows, and one more token.
use Rattle.std.proofs.Common.{◌≡◌, false, [], ◌∷◌, ◌++◌, refl, sym, ap, ◌∙◌}
use Rattle.json.specs.Token.{Token}
use Rattle.json.specs.Lex.{tokens}
use Rattle.json.specs.Print.{IsPrintable, ends, print, separator, token_text}
use Rattle.json.proofs.Printed.Tokens.{ArePrintable-push, ends_push, print_from_push, tokens-print}
use Rattle.velo_finding.specs.Writing.{IsPrinted}
use Rattle.velo_finding.specs.declared.writer.JsonWriter.TheInside.{Inside}

pub shows_printed : (w : Inside) (h : IsPrinted w) → tokens w.text.items ≡ h.printed
shows_printed w h = ap tokens h.text ∙ tokens-print h.printed h.printable

pub text_printed : (w : Inside) → IsPrinted w → w.text.items ≡ print (tokens w.text.items)
text_printed w h = h.text ∙ ap print (sym (shows_printed w h))

module _ (w v : Inside) (h : IsPrinted w) (t : Token) (printable : IsPrintable t) (place : v.after_value ≡ ends t)
    (text : v.text.items ≡ w.text.items ++ (separator w.after_value t ++ token_text t)) where
  pub pushed : IsPrinted v
  pushed = record {
    printed = h.printed ++ t ∷ [];
    printable = ArePrintable-push h.printed t h.printable printable;
    text = text ∙ (λ i. h.text i ++ (separator (h.place i) t ++ token_text t)) ∙ sym (print_from_push false h.printed t);
    place = place ∙ sym (ends_push false h.printed t);
  }

  pub pushed_tokens : tokens v.text.items ≡ tokens w.text.items ++ t ∷ []
  unfolding pushed
  pushed_tokens = shows_printed v pushed ∙ ap (λ l. l ++ t ∷ []) (sym (shows_printed w h))
