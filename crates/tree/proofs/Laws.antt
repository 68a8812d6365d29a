-- What is proved of trees: ways up to the root, depths and routes. The module named here has the laws.
pub mod Tree
