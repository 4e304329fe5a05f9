-- Range: of which releases a history speaks.
-- Laws: what follows from the definition of a cut.
pub mod Range
pub mod Laws
