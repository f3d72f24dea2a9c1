pub mod SelfEquations
