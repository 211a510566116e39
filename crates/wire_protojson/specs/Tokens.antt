-- What tokens and words stand for.
use Rattle.std.specs.Prelude.{true, false}
use Rattle.std.specs.Cow.{cow_str_bytes}
use Rattle.std.specs.Float.{Float, nan, inf}
use Rattle.wire_json.specs.Json.{Json, null, boolean, number, string}
use Rattle.wire_protojson.specs.declared.float.Word.{Word}
use Rattle.wire_protojson.specs.declared.float.Word.TheVariants as words
use Rattle.wire_protojson.specs.declared.token.Token.{Token}
use Rattle.wire_protojson.specs.declared.token.Token.TheVariants as tokens

abbrev pub token_tree : Token → Json
token_tree tokens.Null = null
token_tree (tokens.Bool b) = boolean b
token_tree (tokens.Number text) = number text.now
token_tree (tokens.String text) = string (cow_str_bytes text)

-- the float that a word stands for
abbrev pub word_value : Word → Float
word_value words.NotANumber = nan
word_value words.Infinity = inf false
word_value words.MinusInfinity = inf true
