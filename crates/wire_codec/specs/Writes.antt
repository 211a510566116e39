-- A write of a text behind what a sink held.
pub use Rattle.wire_base.specs.Sink.{Held, Writes, IsWrittenTo}
