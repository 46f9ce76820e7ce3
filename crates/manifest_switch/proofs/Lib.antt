pub mod CodecLemmas
pub mod CurrentLemmas
pub mod LawLemmas
pub mod SlotLemmas
pub mod SwitchLemmas
