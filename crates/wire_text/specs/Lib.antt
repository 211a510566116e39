-- The definitions that the contracts of this crate cite from below, for crates that stand on it
-- alone.
pub use Rattle.wire_base.specs.Delimited
pub use Rattle.wire_base.specs.Field
pub use Rattle.wire_base.specs.FieldNumber
pub use Rattle.wire_base.specs.Read
pub use Rattle.wire_base.specs.Sink
pub use Rattle.wire_base.specs.Text
pub use Rattle.wire_base.specs.declared.error.DecodeError
pub use Rattle.wire_base.specs.declared.error.EncodeError
pub use Rattle.wire_base.specs.declared.tag.WireType
pub mod BytesPayload
pub mod EnumNumbers
pub mod Enumeration
pub mod FromWire
pub mod FromWireLaws
pub mod Laws
pub mod StringPayload
pub mod WirePayload
