pub use Rattle.dsde_routes_pushing.specs.Carried
pub use Rattle.dsde_routes_pushing.specs.Pushed
pub use Rattle.dsde_routes_pushing.specs.Wire
pub use Rattle.dsde_routes_pushing.specs.lemmas.Ascending as lemmas_Ascending
pub use Rattle.dsde_routes_pushing.specs.lemmas.Handles as lemmas_Handles
pub use Rattle.dsde_routes_pushing.specs.lemmas.Lists as lemmas_Lists
