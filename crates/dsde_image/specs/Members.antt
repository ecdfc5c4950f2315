-- Members that several kinds of objects have, put into an object.
use Rattle.std.specs.Prelude.{ℕ, List, codes}
use Rattle.serde_json.specs.Data.{Members, string, put}
use Rattle.dsde_image.specs.declared.image.Standing.{Standing}
use Rattle.dsde_image.specs.Json.{number_data, texts_data, when_data}

-- how far a run is, and the version that is written
abbrev pub with_numbers : ℕ → ℕ → ℕ → Members → Members
with_numbers records time turn members =
    put (codes "version") (number_data 2) (
    put (codes "turn") (number_data turn) (
    put (codes "time") (number_data time) (
    put (codes "records") (number_data records) members)))

-- the arguments of a part
abbrev pub with_args : List (List ℕ) → Members → Members
with_args args members = put (codes "args") (texts_data args) members

-- where a part stands, and its model
abbrev pub with_place : List ℕ → ℕ → List ℕ → Members → Members
with_place name depth model members =
    put (codes "name") (string name) (
    put (codes "model") (string model) (
    put (codes "depth") (number_data depth) members))

-- when a component moved last and moves next, and its state
abbrev pub with_standing : Standing → Members → Members
with_standing standing members =
    put (codes "state") (texts_data standing.state) (
    put (codes "next") (when_data standing.next) (
    put (codes "last") (number_data standing.last) members))
