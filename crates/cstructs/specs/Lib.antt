pub mod CStructs
