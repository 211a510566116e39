-- The definitions that the contracts of this crate cite from below, for crates that stand on it
-- alone.
pub use Rattle.wire_base.specs.Charge
pub use Rattle.wire_base.specs.Ending
pub use Rattle.wire_base.specs.Fault
pub use Rattle.wire_base.specs.Field
pub use Rattle.wire_base.specs.FieldNumber
pub use Rattle.wire_base.specs.Fixed
pub use Rattle.wire_base.specs.Limits
pub use Rattle.wire_base.specs.Read
pub use Rattle.wire_base.specs.Sink
pub use Rattle.wire_base.specs.Tag
pub use Rattle.wire_base.specs.Taken
pub use Rattle.wire_base.specs.Text
pub use Rattle.wire_base.specs.Varint
pub use Rattle.wire_base.specs.declared.error.DecodeError
pub use Rattle.wire_base.specs.declared.error.EncodeError
pub use Rattle.wire_base.specs.declared.tag.WireType
pub mod Borrow
pub mod Laws
pub mod Packed
pub mod Reading
pub mod ValueMap
