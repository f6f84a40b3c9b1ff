-- Contracts of functions below the public call, and the remainder as a function. No contract of a public call uses
-- these definitions, so an auditor may skip them.
pub mod Remainders
pub mod Tables
pub mod Folding
pub mod Carried
pub mod Overlays
pub mod Windows
