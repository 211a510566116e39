-- The rest of the word is wanted at the place.
use Rattle.std.proofs.Common.{◌≡◌, ◌+◌, ◌<◌, ◌≤◌, length, drop}
use Rattle.wire_json.specs.Bytes.{word_end}
use Rattle.wire_json.proofs.bytes.skip_word.Given as goal

abbrev pub invariant-loop-byte : goal.invariant-loop-byte
invariant-loop-byte l = record {
  rest : word_end (drop l.byte-index l.word) (drop l.place l.text)
      ≡ word_end l.word (drop l.at l.text);
  moves : l.place ≡ l.at + l.byte-index;
  within : 0 < l.byte-index → l.place ≤ length l.text;
}
