pub mod Goes
pub mod Exports
