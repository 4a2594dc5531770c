pub mod Heights
pub mod Manifests
pub mod ChunkPlaces
pub mod Asked
pub mod Opened
