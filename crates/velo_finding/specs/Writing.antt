-- The text of tokens. Private contracts cite these words.
use Rattle.std.specs.Prelude.{◌≡◌, ℕ, List, decimal}
use Rattle.json.specs.Token as json
use Rattle.json.specs.Print.{ArePrintable, ends_value, print}
use Rattle.velo_finding.specs.declared.token.Token.{Token}
use Rattle.velo_finding.specs.declared.token.Token.TheVariants.{BeginObject, EndObject, BeginArray, EndArray, Key, String, Number, Boolean, Null}
use Rattle.velo_finding.specs.declared.writer.JsonWriter.TheInside.{Inside}

-- the token as the kit's `json` has it
abbrev pub token_of : Token → json.Token
token_of BeginObject = json.begin_object
token_of EndObject = json.end_object
token_of BeginArray = json.begin_array
token_of EndArray = json.end_array
token_of (Key key) = json.key key.now
token_of (String bytes) = json.string bytes.now
token_of (Number number) = json.number (decimal number)
token_of (Boolean b) = json.boolean b
token_of Null = json.null

-- the text is that of some tokens
pub record IsPrinted (writer : Inside) : Type 0 where
  pub printed : List json.Token
  pub printable : ArePrintable printed
  pub text : writer.text.items ≡ print printed
  pub place : writer.after_value ≡ ends_value printed
