pub mod Asked
pub mod Inner
pub mod PipelineEnds
pub mod Ports
