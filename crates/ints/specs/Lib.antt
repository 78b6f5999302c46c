-- Integers for proofs of code: what the kit's ℤ lacks. `Ring` and `Order` have the laws; `Linear` lets `omega` prove linear facts;
-- `Polynomial` proves identities; `Bound` bounds sizes; `Computation`, `Machine` and `Float` say what signed code and float code compute;
-- `Sum` has sums over ranges. START AT `Auto` and proofs/Auto.antt:
-- they answer the goals of signed and float code with no expression written.
pub mod Ring
pub mod Order
pub mod Linear
pub mod Polynomial
pub mod Bound
pub mod Sum
pub mod Computation
pub mod Machine
pub mod Float
pub mod Auto
