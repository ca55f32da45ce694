-- What is known where a growing call of the library was refused.
pub use Rattle.velo_seal.specs.Seal.{GrowthRefused}
