-- Contracts of functions below the public calls, and invariants of their loops. No contract of a public call uses these
-- definitions, so an auditor may skip them.
pub mod Receiving
