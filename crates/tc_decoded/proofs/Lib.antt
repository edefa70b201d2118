pub mod AddedLemmas
pub mod FrameAddedLemmas
pub mod CltuAddedLemmas
pub mod FaultLemmas
pub mod FieldFaultLemmas
pub mod ContentFaultLemmas
pub mod TelemetryFaultLemmas
pub mod LayerFaultLemmas
