pub mod Pages
pub mod Places
