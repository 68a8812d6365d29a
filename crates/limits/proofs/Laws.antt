-- What is proved of the limits of nodes and flows. The module named here holds the laws.
pub mod Forms
