pub mod Cuts
pub mod Packets
pub mod Carriers
pub mod Sending
pub mod Inner
