-- The image of a run as a JSON value: its members by their keys, in the order of the keys' bytes. Source: this project's profile.
use Rattle.std.specs.Prelude.{ℕ, List, [], ◌∷◌, codes}
use Rattle.dsde_values.specs.declared.when.When.{When}
use Rattle.dsde_values.specs.declared.when.When.TheVariants.{At, Never}
use Rattle.dsde_image.specs.declared.image.Body.{Body}
use Rattle.dsde_image.specs.declared.image.Body.TheVariants.{Atomic, Net, Executive}
use Rattle.dsde_image.specs.declared.image.Image.{Image}
use Rattle.dsde_image.specs.declared.image.Location.{Location}
use Rattle.dsde_image.specs.declared.image.Location.TheVariants as location
use Rattle.dsde_image.specs.declared.image.Row.{Row}
use Rattle.dsde_image.specs.declared.image.Standing.{Standing}
use Rattle.dsde_image.specs.declared.image.Version.{Version}
use Rattle.dsde_image.specs.declared.image.Version.TheVariants.{One, Two}
use Rattle.serde_json.specs.Data.{Data, null, number, string, array, object, unsigned, Items, no_items, item, no_members, member}

-- a list of things, each by its value
abbrev pub items_data : {A : Type 0} → (A → Data) → List A → Items
items_data seen [] = no_items
items_data seen (thing ∷ things) = item (seen thing) (items_data seen things)

abbrev pub number_data : ℕ → Data
number_data whole = number (unsigned whole)

abbrev pub when_data : When → Data
when_data (At time) = number_data time
when_data Never = null

abbrev pub texts_data : List (List ℕ) → Data
texts_data texts = array (items_data string texts)

-- ---- a part by its kind, in version 1: with its path

abbrev pub old_atomic_data : List ℕ → List ℕ → List (List ℕ) → Standing → Data
old_atomic_data path model args standing = object (
    member (codes "args") (texts_data args) (
    member (codes "last") (number_data standing.last) (
    member (codes "model") (string model) (
    member (codes "next") (when_data standing.next) (
    member (codes "path") (string path) (
    member (codes "state") (texts_data standing.state) no_members))))))

abbrev pub old_net_data : List ℕ → List ℕ → List (List ℕ) → Data
old_net_data path model args = object (
    member (codes "args") (texts_data args) (
    member (codes "model") (string model) (
    member (codes "path") (string path) no_members)))

abbrev pub old_executive_data : List ℕ → List ℕ → Standing → Data
old_executive_data path model standing = object (
    member (codes "last") (number_data standing.last) (
    member (codes "model") (string model) (
    member (codes "next") (when_data standing.next) (
    member (codes "path") (string path) (
    member (codes "state") (texts_data standing.state) no_members)))))

-- ---- and in version 2: with the last name of its path, and how many names that has

abbrev pub atomic_data : List ℕ → ℕ → List ℕ → List (List ℕ) → Standing → Data
atomic_data name depth model args standing = object (
    member (codes "args") (texts_data args) (
    member (codes "depth") (number_data depth) (
    member (codes "last") (number_data standing.last) (
    member (codes "model") (string model) (
    member (codes "name") (string name) (
    member (codes "next") (when_data standing.next) (
    member (codes "state") (texts_data standing.state) no_members)))))))

abbrev pub net_data : List ℕ → ℕ → List ℕ → List (List ℕ) → Data
net_data name depth model args = object (
    member (codes "args") (texts_data args) (
    member (codes "depth") (number_data depth) (
    member (codes "model") (string model) (
    member (codes "name") (string name) no_members))))

abbrev pub executive_data : List ℕ → ℕ → List ℕ → Standing → Data
executive_data name depth model standing = object (
    member (codes "depth") (number_data depth) (
    member (codes "last") (number_data standing.last) (
    member (codes "model") (string model) (
    member (codes "name") (string name) (
    member (codes "next") (when_data standing.next) (
    member (codes "state") (texts_data standing.state) no_members))))))

-- ---- images

abbrev pub old_body_data : List ℕ → List ℕ → Body → Data
old_body_data path model (Atomic args standing) = old_atomic_data path model args standing
old_body_data path model (Net args) = old_net_data path model args
old_body_data path model (Executive standing) = old_executive_data path model standing

abbrev pub body_data : List ℕ → ℕ → List ℕ → Body → Data
body_data name depth model (Atomic args standing) = atomic_data name depth model args standing
body_data name depth model (Net args) = net_data name depth model args
body_data name depth model (Executive standing) = executive_data name depth model standing

abbrev pub located_data : Location → List ℕ → Body → Data
located_data (location.Path path) model body = old_body_data path model body
located_data (location.Last name depth) model body = body_data name depth model body

abbrev pub row_data : Row → Data
row_data row = located_data row.location row.model row.body

abbrev pub rows_data : List Row → Data
rows_data rows = array (items_data row_data rows)

abbrev pub version_number : Version → ℕ
version_number One = 1
version_number Two = 2

abbrev pub image_data : Image → Data
image_data image = object (
    member (codes "kind") (string (codes "dsde-save")) (
    member (codes "parts") (rows_data image.parts) (
    member (codes "records") (number_data image.records) (
    member (codes "time") (number_data image.time) (
    member (codes "turn") (number_data image.turn) (
    member (codes "version") (number_data (version_number image.version)) no_members))))))
