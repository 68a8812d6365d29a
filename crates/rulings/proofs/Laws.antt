-- What is proved of outcomes, rulings and checks in an order, whatever is checked. The modules named here hold the laws.
pub mod Choices
pub mod Faults
pub mod Outcomes
