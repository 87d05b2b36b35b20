pub mod Updates
pub mod HeaderModes
pub mod TransformProbs
pub mod ReferenceProbs
pub mod VectorProbs
pub mod CompressedHeader
