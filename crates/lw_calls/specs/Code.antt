-- What only the clauses of private functions cite: the state of the code, which is no part of any meaning.
pub mod OrderState
