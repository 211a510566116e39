pub mod Counter
pub mod CounterLog
pub mod CounterSingle
pub mod PayloadBytes
