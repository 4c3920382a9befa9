pub mod VertexText
