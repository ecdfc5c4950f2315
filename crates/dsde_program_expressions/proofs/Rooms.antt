-- Room for as many nodes as there are links.
use Rattle.std.proofs.Common.{◌≡◌, ℕ, List, map, length, ap, ◌∙◌}
use Rattle.std.proofs.lemmas.List.{length-map}
use Rattle.dsde_program_layout.specs.Lay.{Table, rooms}

pub rooms-map : {A B : Type 0} (f : A → B) (xs : List A) (table : Table) → rooms (length (map f xs)) table ≡ rooms (length xs) table
rooms-map f xs table = ap (λ (n : ℕ). rooms n table) (length-map xs f)

pub rooms-maps : {A B C : Type 0} (g : B → C) (f : A → B) (xs : List A) (table : Table) → rooms (length (map g (map f xs))) table ≡ rooms (length xs) table
rooms-maps g f xs table = rooms-map g (map f xs) table ∙ rooms-map f xs table

pub ruleset rooms_rules = (rooms-map, rooms-maps)
