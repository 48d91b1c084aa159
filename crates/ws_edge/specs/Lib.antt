pub mod Address
pub mod Server
pub mod WsLink
pub mod WsPort
