-- What contracts see of the values of Rust.
use Rattle.std.specs.Prelude.{ℕ, ◌<◌, List, length, drop, string_bytes}
use Rattle.wire_json.specs.Answer.{IsBehind}
use Rattle.wire_jsonpath.specs.declared.side.Side.{Side}
use Rattle.wire_jsonpath.specs.declared.side.Side.TheVariants.{Over, Holding, Ahead}
use Rattle.wire_jsonpath.specs.declared.path.JsonStep.{JsonStep}
use Rattle.wire_jsonpath.specs.declared.path.JsonStep.TheVariants as steps
use Rattle.wire_jsonpath.specs.Items.{HoldsByte, IsOver, LastsFor}
use Rattle.wire_jsonpath.specs.Path.{TreeStep, element, member}

abbrev pub tree_step : JsonStep → TreeStep
tree_step (steps.Member name) = member (string_bytes name)
tree_step (steps.Element index) = element index

-- how the value at a place lies to the byte with so many bytes from it on
abbrev pub SideIs : ℕ → ℕ → List ℕ → ℕ → Side → Type 0
SideIs levels left text at (Over after) =
    IsOver levels left (drop at text) (drop after text) × IsBehind at after text
SideIs levels left text at Holding = HoldsByte levels left (drop at text)
SideIs levels left text at Ahead =
    (length (drop at text) < left) × LastsFor levels left (drop at text)
