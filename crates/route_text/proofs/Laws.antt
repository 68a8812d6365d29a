-- What is proved of routes as text. The module named here has the laws.
pub mod Ways
