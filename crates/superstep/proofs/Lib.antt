pub mod RoomLemmas
pub mod LoopLemmas
