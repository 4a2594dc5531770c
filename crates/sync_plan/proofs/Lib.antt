pub mod Spelling
pub mod Contents
pub mod Metas
