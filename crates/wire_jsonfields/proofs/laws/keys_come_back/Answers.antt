use Rattle.wire_jsonfields.specs.KeysBack.{signed_key_back, unsigned_key_back}
use Rattle.wire_jsonfields.proofs.laws.keys_come_back.Goals as goal

pub returns : goal.returns
returns c = record { signed = signed_key_back; unsigned = unsigned_key_back }
