use Rattle.wire_base.proofs.Sinks.{put_is_a_write}
use Rattle.wire_base.proofs.room.sink.RoomEncodeSink.TheImpl.Goals as goal

pub put_varint-tells : goal.put_varint-tells
put_varint-tells g c = put_is_a_write _ _ _ _ c.ensures

pub put_varints-tells : goal.put_varints-tells
put_varints-tells g c = put_is_a_write _ _ _ _ c.ensures

pub put_delimited-tells : goal.put_delimited-tells
put_delimited-tells g c = put_is_a_write _ _ _ _ c.ensures

pub put_fixed32-tells : goal.put_fixed32-tells
put_fixed32-tells g c = put_is_a_write _ _ _ _ c.ensures

pub put_fixed64-tells : goal.put_fixed64-tells
put_fixed64-tells g c = put_is_a_write _ _ _ _ c.ensures
