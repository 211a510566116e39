use Rattle.std.proofs.Common.{[]}
use Rattle.wire_codec.specs.Ending.{by_input}
use Rattle.wire_samples.proofs.laws.decoded_nodes_fold_back.Goals as goal

pub returns : goal.returns
returns c =
    let stays = c.nodes_stay_in_range.ensures in
    let all = c.slice_has_bytes.ensures in
    record {
      in_range = λ l z decoded. stays.taken l by_input _ z _ [] decoded.0 all stays.start decoded.1;
      back = λ l z decoded small. c.nodes_fold_back.ensures z
          (stays.taken l by_input _ z _ [] decoded.0 all stays.start decoded.1) small;
    }
