-- What is read of a JSON value is what is written as it.
use Rattle.std.proofs.Common.{◌≡◌, ℕ, ◌-◌, ◌<◌, ◌≤◌, ◌^◌, ◌&&◌, ◌==◌, cond, Bool, true, false, nat_lt, nat_le, List, [], ◌∷◌, Option, Some, None, refl, ap, subst, ◌∙◌, arith}
use Rattle.std.specs.List.{AllByRecursion}
use Rattle.std.proofs.lemmas.Bool.{ltb-true, leb-true, eqb-true}
use Rattle.std.specs.Str.{bytes_eq}
use Rattle.std.specs.Prelude.{codes}
use Rattle.std.proofs.lemmas.Slice.Eq.{bytes_eq-Decides}
use Rattle.dsde_values.specs.When.{IsMoment}
use Rattle.dsde_values.specs.declared.when.When.{When}
use Rattle.dsde_values.specs.declared.when.When.TheVariants.{At, Never}
use Rattle.serde_json.specs.Data.{Data, null, boolean, number, string, array, object, unsigned, negative, float, Items, no_items, item}
use Rattle.serde_json.specs.Find.{get, as_str, as_array}
use Rattle.dsde_image.specs.Image.{IsInTime, IsStanding, IsBody}
use Rattle.dsde_image.specs.declared.image.Body.{Body}
use Rattle.dsde_image.specs.declared.image.Body.TheVariants.{Atomic, Net, Executive}
use Rattle.dsde_image.specs.declared.image.Image.{Image}
use Rattle.dsde_image.specs.declared.image.Location.{Location}
use Rattle.dsde_image.specs.declared.image.Location.TheVariants as location
use Rattle.dsde_image.specs.declared.image.Row.{Row}
use Rattle.dsde_image.specs.declared.image.Standing.{Standing}
use Rattle.dsde_image.specs.declared.image.Version.{Version}
use Rattle.dsde_image.specs.declared.image.Version.TheVariants.{One, Two}
use Rattle.dsde_image.specs.Json.{items_data, number_data, when_data, texts_data, row_data, version_number, image_data}
use Rattle.dsde_image.specs.Form.{◌>>=◌, only_if, number_of, moment_of, depth_of, version_of, when_of, each_of, under, texts_under, count_in, place_members, location_of, standing_of, body_of, row_of, version_in, progress_of, image_of}
use Rattle.dsde_image.proofs.Keys.{just-these}

some-is : {A : Type 0} (x y : A) → (let one : Option A = Some x in one ≡ Some y) → x ≡ y
some-is x y is = cc

bind-some : {A B : Type 0} (r : Option A) (f : A → Option B) (y : B) → (r >>= f) ≡ Some y → (x : A) × (r ≡ Some x) × (f x ≡ Some y)
bind-some None f y is = absurd (cc is)
bind-some (Some x) f y is = (x, refl, is)

only_if-some : {A : Type 0} (test : Bool) (x y : A) → only_if test x ≡ Some y → (test ≡ true) × (x ≡ y)
only_if-some true x y is = (refl, some-is x y is)
only_if-some false x y is = absurd (cc is)

string-found : (seen : Data) (text : List ℕ) → as_str seen ≡ Some text → seen ≡ string text
string-found (string s) text is = ap string (some-is s text is)
string-found null text is = absurd (cc is)
string-found (boolean b) text is = absurd (cc is)
string-found (number n) text is = absurd (cc is)
string-found (array ds) text is = absurd (cc is)
string-found (object ms) text is = absurd (cc is)

array-found : (seen : Data) (items : Items) → as_array seen ≡ Some items → seen ≡ array items
array-found (array ds) items is = ap array (some-is ds items is)
array-found null items is = absurd (cc is)
array-found (boolean b) items is = absurd (cc is)
array-found (number n) items is = absurd (cc is)
array-found (string s) items is = absurd (cc is)
array-found (object ms) items is = absurd (cc is)

number-found : (seen : Data) (whole : ℕ) → number_of seen ≡ Some whole → seen ≡ number_data whole
unfolding number_of
number-found (number (unsigned n)) whole is = ap number_data (some-is n whole is)
number-found (number (negative z)) whole is = absurd (cc is)
number-found (number (float x)) whole is = absurd (cc is)
number-found null whole is = absurd (cc is)
number-found (boolean b) whole is = absurd (cc is)
number-found (string s) whole is = absurd (cc is)
number-found (array ds) whole is = absurd (cc is)
number-found (object ms) whole is = absurd (cc is)

moment-found : (seen : Data) (time : ℕ) → moment_of seen ≡ Some time → (seen ≡ number_data time) × IsMoment time
unfolding moment_of
moment-found seen time is =
    let found = bind-some (number_of seen) (λ time. only_if (nat_lt time (2 ^ 63)) time) time is in
    let early = only_if-some (nat_lt found.0 (2 ^ 63)) found.0 time found.2 in
    (number-found seen found.0 found.1 ∙ ap number_data early.1, subst IsMoment early.1 (ltb-true found.0 (2 ^ 63) early.0))

depth-found : (seen : Data) (depth : ℕ) → depth_of seen ≡ Some depth → (seen ≡ number_data depth) × (depth < 2 ^ 32)
unfolding depth_of
depth-found seen depth is =
    let found = bind-some (number_of seen) (λ depth. only_if (nat_lt depth (2 ^ 32)) depth) depth is in
    let few = only_if-some (nat_lt found.0 (2 ^ 32)) found.0 depth found.2 in
    (number-found seen found.0 found.1 ∙ ap number_data few.1, subst (λ own. own < 2 ^ 32) few.1 (ltb-true found.0 (2 ^ 32) few.0))

version-by : (one two : Bool) (found : ℕ) (version : Version) → (one ≡ true → found ≡ 1) → (two ≡ true → found ≡ 2) → cond one (Some One) (only_if two Two) ≡ Some version → found ≡ version_number version
version-by true two found version is_one is_two is = is_one refl ∙ ap version_number (some-is One version is)
version-by false true found version is_one is_two is = is_two refl ∙ ap version_number (some-is Two version is)
version-by false false found version is_one is_two is = absurd (cc is)

version-found : (seen : Data) (version : Version) → version_of seen ≡ Some version → seen ≡ number_data (version_number version)
unfolding version_of
version-found seen version is =
    let found = bind-some (number_of seen) _ version is in
    number-found seen found.0 found.1 ∙ ap number_data (version-by (found.0 == 1) (found.0 == 2) found.0 version (eqb-true found.0 1) (eqb-true found.0 2) found.2)

when-by : (seen : Data) (next : When) → (moment_of seen >>= λ time. Some (At time)) ≡ Some next → (seen ≡ when_data next) × IsInTime next
when-by seen next is =
    let found = bind-some (moment_of seen) (λ time. Some (At time)) next is in
    let own = moment-found seen found.0 found.1 in
    subst (λ (next : When). (seen ≡ when_data next) × IsInTime next) (some-is (At found.0) next found.2) (own.0, own.1)

when-found : (seen : Data) (next : When) → when_of seen ≡ Some next → (seen ≡ when_data next) × IsInTime next
unfolding when_of
when-found null next is = subst (λ (next : When). (null ≡ when_data next) × IsInTime next) (some-is Never next is) (refl, tt)
when-found (boolean b) next is = when-by (boolean b) next is
when-found (number n) next is = when-by (number n) next is
when-found (string s) next is = when-by (string s) next is
when-found (array ds) next is = when-by (array ds) next is
when-found (object ms) next is = when-by (object ms) next is

each-found : {A : Type 0} (read : Data → Option A) (seen : A → Data) (Is : A → Type 0) → ((own : Data) (thing : A) → read own ≡ Some thing → (own ≡ seen thing) × Is thing) →
    (items : Items) (things : List A) → each_of read items ≡ Some things → (items ≡ items_data seen things) × AllByRecursion Is things
unfolding each_of
each-found {A = A} read seen Is found no_items things is = subst (λ (things : List A). (no_items ≡ items_data seen things) × AllByRecursion Is things) (some-is [] things is) (refl, tt)
each-found {A = A} read seen Is found (item own items) things is =
    let first = bind-some (read own) _ things is in
    let later = bind-some (each_of read items) _ things first.2 in
    let one = found own first.0 first.1 in
    let rest = each-found read seen Is found items later.0 later.1 in
    subst (λ (things : List A). (item own items ≡ items_data seen things) × AllByRecursion Is things) (some-is (first.0 ∷ later.0) things later.2)
    (ap (λ d. item d items) one.0 ∙ ap (item (seen first.0)) rest.0, (one.1, rest.1))

-- ---- what stands under keys

-- Under this key stands what shows this thing.
abbrev Shows : {A : Type 0} → (A → Data) → List ℕ → Data → A → Type 0
Shows shown key seen thing = get key seen ≡ Some (shown thing)

under-found : {A : Type 0} (read : Data → Option A) (shown : A → Data) (Is : A → Type 0) → ((own : Data) (thing : A) → read own ≡ Some thing → (own ≡ shown thing) × Is thing) →
    (key : List ℕ) (seen : Data) (thing : A) → under read key seen ≡ Some thing → Shows shown key seen thing × Is thing
unfolding under
under-found read shown Is found key seen thing is =
    let first = bind-some (get key seen) read thing is in
    let own = found first.0 thing first.2 in
    (first.1 ∙ ap (λ (own : Data). let some : Option Data = Some own in some) own.0, own.1)

abbrev IsAny : {A : Type 0} → A → Type 0
IsAny thing = Unit {0}

text-under : (key : List ℕ) (seen : Data) (text : List ℕ) → under as_str key seen ≡ Some text → Shows string key seen text
text-under key seen text is = (under-found as_str string IsAny (λ own text is. (string-found own text is, tt)) key seen text is).0

items-under : (key : List ℕ) (seen : Data) (items : Items) → under as_array key seen ≡ Some items → Shows array key seen items
items-under key seen items is = (under-found as_array array IsAny (λ own items is. (array-found own items is, tt)) key seen items is).0

number-under : (key : List ℕ) (seen : Data) (whole : ℕ) → under number_of key seen ≡ Some whole → Shows number_data key seen whole
number-under key seen whole is = (under-found number_of number_data IsAny (λ own whole is. (number-found own whole is, tt)) key seen whole is).0

version-under : (key : List ℕ) (seen : Data) (version : Version) → under version_of key seen ≡ Some version → Shows (λ version. number_data (version_number version)) key seen version
version-under key seen version is = (under-found version_of (λ version. number_data (version_number version)) IsAny (λ own version is. (version-found own version is, tt)) key seen version is).0

moment-under : (key : List ℕ) (seen : Data) (time : ℕ) → under moment_of key seen ≡ Some time → Shows number_data key seen time × IsMoment time
moment-under = under-found moment_of number_data IsMoment moment-found

depth-under : (key : List ℕ) (seen : Data) (depth : ℕ) → under depth_of key seen ≡ Some depth → Shows number_data key seen depth × (depth < 2 ^ 32)
depth-under = under-found depth_of number_data (λ depth. depth < 2 ^ 32) depth-found

when-under : (key : List ℕ) (seen : Data) (next : When) → under when_of key seen ≡ Some next → Shows when_data key seen next × IsInTime next
when-under = under-found when_of when_data IsInTime when-found

texts-found : (key : List ℕ) (seen : Data) (texts : List (List ℕ)) → texts_under key seen ≡ Some texts → Shows texts_data key seen texts
texts-found key seen texts is =
    let items = bind-some (under as_array key seen) (each_of as_str) texts is in
    let own = each-found as_str string IsAny (λ own text is. (string-found own text is, tt)) items.0 texts items.2 in
    items-under key seen items.0 items.1 ∙ ap (λ items. Some (array items)) own.0

-- ---- a part

-- its location is of this version
abbrev pub IsOf : Version → Location → Type 0
IsOf One (location.Path path) = Unit {0}
IsOf One (location.Last name depth) = ⊥
IsOf Two (location.Path path) = ⊥
IsOf Two (location.Last name depth) = depth < 2 ^ 32

pub record IsOwn (version : Version) (row : Row) : Type 0 where
  pub location : IsOf version row.location
  pub body : IsBody row.body

abbrev ShowsPlace : Data → Location → Type 0
ShowsPlace seen (location.Path path) = Shows string (codes "path") seen path
ShowsPlace seen (location.Last name depth) = Shows number_data (codes "depth") seen depth × Shows string (codes "name") seen name

record ShowsStanding (seen : Data) (standing : Standing) : Type 0 where
  last : Shows number_data (codes "last") seen standing.last
  next : Shows when_data (codes "next") seen standing.next
  state : Shows texts_data (codes "state") seen standing.state

-- so many members show what it is
abbrev ShowsBody : ℕ → Data → Body → Type 0
ShowsBody many seen (Atomic args standing) = (many ≡ 4) × Shows texts_data (codes "args") seen args × ShowsStanding seen standing
ShowsBody many seen (Net args) = (many ≡ 1) × Shows texts_data (codes "args") seen args
ShowsBody many seen (Executive standing) = (many ≡ 3) × ShowsStanding seen standing

abbrev PlaceFound : Version → Data → Location → Type 0
PlaceFound version seen place = ShowsPlace seen place × IsOf version place

place-found : (version : Version) (seen : Data) (place : Location) → location_of version seen ≡ Some place → PlaceFound version seen place
unfolding location_of
place-found One seen place is =
    let path = bind-some (under as_str (codes "path") seen) _ place is in
    subst (λ (place : Location). PlaceFound One seen place) (some-is (location.Path path.0) place path.2) (text-under (codes "path") seen path.0 path.1, tt)
place-found Two seen place is =
    let depth = bind-some (under depth_of (codes "depth") seen) _ place is in
    let name = bind-some (under as_str (codes "name") seen) _ place depth.2 in
    let own = depth-under (codes "depth") seen depth.0 depth.1 in
    subst (λ (place : Location). PlaceFound Two seen place) (some-is (location.Last name.0 depth.0) place name.2) ((own.0, text-under (codes "name") seen name.0 name.1), own.1)

abbrev StandingFound : Data → Standing → Type 0
StandingFound seen standing = ShowsStanding seen standing × IsStanding standing

standing-found : (seen : Data) (standing : Standing) → standing_of seen ≡ Some standing → StandingFound seen standing
unfolding standing_of
standing-found seen standing is =
    let last = bind-some (under moment_of (codes "last") seen) _ standing is in
    let next = bind-some (under when_of (codes "next") seen) _ standing last.2 in
    let state = bind-some (texts_under (codes "state") seen) _ standing next.2 in
    let l = moment-under (codes "last") seen last.0 last.1 in
    let n = when-under (codes "next") seen next.0 next.1 in
    subst (λ (standing : Standing). StandingFound seen standing) (some-is _ standing state.2)
    (record { last = l.0; next = n.0; state = texts-found (codes "state") seen state.0 state.1 }, record { last = l.1; next = n.1 })

abbrev BodyFound : ℕ → Data → Body → Type 0
BodyFound many seen body = ShowsBody many seen body × IsBody body

net-found : (many : ℕ) (seen : Data) (body : Body) → many ≡ 1 → (texts_under (codes "args") seen >>= λ args. Some (Net args)) ≡ Some body → BodyFound many seen body
net-found many seen body one is =
    let args = bind-some (texts_under (codes "args") seen) _ body is in
    subst (λ (body : Body). BodyFound many seen body) (some-is (Net args.0) body args.2) ((one, texts-found (codes "args") seen args.0 args.1), tt)

executive-found : (many : ℕ) (seen : Data) (body : Body) → many ≡ 3 → (standing_of seen >>= λ standing. Some (Executive standing)) ≡ Some body → BodyFound many seen body
executive-found many seen body three is =
    let standing = bind-some (standing_of seen) _ body is in
    let own = standing-found seen standing.0 standing.1 in
    subst (λ (body : Body). BodyFound many seen body) (some-is (Executive standing.0) body standing.2) ((three, own.0), own.1)

atomic-found : (many : ℕ) (seen : Data) (body : Body) → many ≡ 4 → (texts_under (codes "args") seen >>= λ args. standing_of seen >>= λ standing. Some (Atomic args standing)) ≡ Some body → BodyFound many seen body
atomic-found many seen body four is =
    let args = bind-some (texts_under (codes "args") seen) _ body is in
    let standing = bind-some (standing_of seen) _ body args.2 in
    let own = standing-found seen standing.0 standing.1 in
    subst (λ (body : Body). BodyFound many seen body) (some-is (Atomic args.0 standing.0) body standing.2) ((four, texts-found (codes "args") seen args.0 args.1, own.0), own.1)

kind-found : (one three four : Bool) (many : ℕ) (seen : Data) (body : Body) → (one ≡ true → many ≡ 1) → (three ≡ true → many ≡ 3) → (four ≡ true → many ≡ 4) →
    cond one (texts_under (codes "args") seen >>= λ args. Some (Net args)) (cond three (standing_of seen >>= λ standing. Some (Executive standing))
    (cond four (texts_under (codes "args") seen >>= λ args. standing_of seen >>= λ standing. Some (Atomic args standing)) None)) ≡ Some body → BodyFound many seen body
kind-found true three four many seen body is_one is_three is_four is = net-found many seen body (is_one refl) is
kind-found false true four many seen body is_one is_three is_four is = executive-found many seen body (is_three refl) is
kind-found false false true many seen body is_one is_three is_four is = atomic-found many seen body (is_four refl) is
kind-found false false false many seen body is_one is_three is_four is = absurd (cc is)

body-found : (many : ℕ) (seen : Data) (body : Body) → body_of many seen ≡ Some body → BodyFound many seen body
unfolding body_of
body-found many seen body is = kind-found (many == 1) (many == 3) (many == 4) many seen body (eqb-true many 1) (eqb-true many 3) (eqb-true many 4) is

-- all that its members show is all that it says
row-is : (version : Version) (seen : Data) (place : Location) (model : List ℕ) (body : Body) → PlaceFound version seen place → Shows string (codes "model") seen model → ShowsBody (count_in seen - place_members version) seen body →
    (let row : Row = record { location = place; model = model; body = body } in seen ≡ row_data row)
row-is One seen (location.Path path) model (Atomic args standing) p m b =
    just-these seen
    ((codes "args", texts_data args) ∷ (codes "last", number_data standing.last) ∷ (codes "model", string model) ∷ (codes "next", when_data standing.next) ∷ (codes "path", string path) ∷ (codes "state", texts_data standing.state) ∷ [])
    refl (b.1, (b.2.last, (m, (b.2.next, (p.0, (b.2.state, tt)))))) (omega arith) (omega (arith, b.0))
row-is One seen (location.Path path) model (Net args) p m b =
    just-these seen ((codes "args", texts_data args) ∷ (codes "model", string model) ∷ (codes "path", string path) ∷ []) refl (b.1, (m, (p.0, tt))) (omega arith) (omega (arith, b.0))
row-is One seen (location.Path path) model (Executive standing) p m b =
    just-these seen
    ((codes "last", number_data standing.last) ∷ (codes "model", string model) ∷ (codes "next", when_data standing.next) ∷ (codes "path", string path) ∷ (codes "state", texts_data standing.state) ∷ [])
    refl (b.1.last, (m, (b.1.next, (p.0, (b.1.state, tt))))) (omega arith) (omega (arith, b.0))
row-is Two seen (location.Last name depth) model (Atomic args standing) p m b =
    just-these seen
    ((codes "args", texts_data args) ∷ (codes "depth", number_data depth) ∷ (codes "last", number_data standing.last) ∷ (codes "model", string model) ∷ (codes "name", string name) ∷ (codes "next", when_data standing.next) ∷ (codes "state", texts_data standing.state) ∷ [])
    refl (b.1, (p.0.0, (b.2.last, (m, (p.0.1, (b.2.next, (b.2.state, tt))))))) (omega arith) (omega (arith, b.0))
row-is Two seen (location.Last name depth) model (Net args) p m b =
    just-these seen ((codes "args", texts_data args) ∷ (codes "depth", number_data depth) ∷ (codes "model", string model) ∷ (codes "name", string name) ∷ []) refl (b.1, (p.0.0, (m, (p.0.1, tt)))) (omega arith) (omega (arith, b.0))
row-is Two seen (location.Last name depth) model (Executive standing) p m b =
    just-these seen
    ((codes "depth", number_data depth) ∷ (codes "last", number_data standing.last) ∷ (codes "model", string model) ∷ (codes "name", string name) ∷ (codes "next", when_data standing.next) ∷ (codes "state", texts_data standing.state) ∷ [])
    refl (p.0.0, (b.1.last, (m, (p.0.1, (b.1.next, (b.1.state, tt)))))) (omega arith) (omega (arith, b.0))
row-is One seen (location.Last name depth) model body p m b = absurd p.1
row-is Two seen (location.Path path) model body p m b = absurd p.1

row-found : (version : Version) (seen : Data) (row : Row) → row_of version seen ≡ Some row → (seen ≡ row_data row) × IsOwn version row
unfolding row_of
row-found version seen row is =
    let place = bind-some (location_of version seen) _ row is in
    let model = bind-some (under as_str (codes "model") seen) _ row place.2 in
    let body = bind-some (body_of (count_in seen - place_members version) seen) _ row model.2 in
    let p = place-found version seen place.0 place.1 in
    let m = text-under (codes "model") seen model.0 model.1 in
    let b = body-found (count_in seen - place_members version) seen body.0 body.1 in
    subst (λ (row : Row). (seen ≡ row_data row) × IsOwn version row) (some-is _ row body.2) (row-is version seen place.0 model.0 body.0 p m b.0, record { location = p.1; body = b.1 })

-- ---- an image

both : (a b : Bool) → (a && b) ≡ true → (a ≡ true) × (b ≡ true)
both true true is = (refl, refl)
both true false is = absurd (cc is)
both false b is = absurd (cc is)

record VersionFound (seen : Data) (version : Version) : Type 0 where
  kind : Shows string (codes "kind") seen (codes "dsde-save")
  version_is : Shows (λ version. number_data (version_number version)) (codes "version") seen version
  many : count_in seen ≡ 6

whole-found : (seen : Data) (version : Version) → version_in seen ≡ Some version → VersionFound seen version
unfolding version_in
whole-found seen version is =
    let kind = bind-some (under as_str (codes "kind") seen) _ version is in
    let own = bind-some (under version_of (codes "version") seen) _ version kind.2 in
    let tested = only_if-some (bytes_eq kind.0 (codes "dsde-save") && count_in seen == 6) own.0 version own.2 in
    let split = both (bytes_eq kind.0 (codes "dsde-save")) (count_in seen == 6) tested.0 in
    record {
      kind = text-under (codes "kind") seen kind.0 kind.1 ∙ ap (λ text. Some (string text)) ((bytes_eq-Decides kind.0 (codes "dsde-save")).0 split.0);
      version_is = version-under (codes "version") seen own.0 own.1 ∙ ap (λ version. Some (number_data (version_number version))) tested.1;
      many = eqb-true (count_in seen) 6 split.1;
    }

record ProgressFound (seen : Data) (own : ℕ × ℕ × ℕ) : Type 0 where
  records : Shows number_data (codes "records") seen own.0
  time : Shows number_data (codes "time") seen own.1
  turn : Shows number_data (codes "turn") seen own.2
  early : IsMoment own.1
  few : own.0 ≤ own.2
  bounded : own.2 ≤ 2 ^ 62

progress-found : (seen : Data) (own : ℕ × ℕ × ℕ) → progress_of seen ≡ Some own → ProgressFound seen own
unfolding progress_of
progress-found seen own is =
    let records = bind-some (under number_of (codes "records") seen) _ own is in
    let time = bind-some (under moment_of (codes "time") seen) _ own records.2 in
    let turn = bind-some (under number_of (codes "turn") seen) _ own time.2 in
    let tested = only_if-some (nat_le records.0 turn.0 && nat_le turn.0 (2 ^ 62)) _ own turn.2 in
    let split = both (nat_le records.0 turn.0) (nat_le turn.0 (2 ^ 62)) tested.0 in
    let t = moment-under (codes "time") seen time.0 time.1 in
    subst (ProgressFound seen) tested.1 (record {
      records = number-under (codes "records") seen records.0 records.1;
      time = t.0;
      turn = number-under (codes "turn") seen turn.0 turn.1;
      early = t.1;
      few = leb-true _ _ split.0;
      bounded = leb-true _ _ split.1;
    })

-- What is read as an image: its value, and what is known of its numbers and of its rows.
pub record ImageFound (seen : Data) (image : Image) : Type 0 where
  pub is : seen ≡ image_data image
  pub time : IsMoment image.time
  pub turn : image.turn ≤ 2 ^ 62
  pub records : image.records ≤ image.turn
  pub parts : AllByRecursion (IsOwn image.version) image.parts

pub image-found : (seen : Data) (image : Image) → image_of seen ≡ Some image → ImageFound seen image
unfolding image_of
image-found seen image is =
    let version = bind-some (version_in seen) _ image is in
    let own = bind-some (progress_of seen) _ image version.2 in
    let parts = bind-some (under as_array (codes "parts") seen) _ image own.2 in
    let rows = bind-some (each_of (row_of version.0) parts.0) _ image parts.2 in
    let v = whole-found seen version.0 version.1 in
    let o = progress-found seen own.0 own.1 in
    let all = each-found (row_of version.0) row_data (IsOwn version.0) (row-found version.0) parts.0 rows.0 rows.1 in
    let p : get (codes "parts") seen ≡ Some (array (items_data row_data rows.0)) = items-under (codes "parts") seen parts.0 parts.1 ∙ ap (λ items. Some (array items)) all.0 in
    subst (ImageFound seen) (some-is _ image rows.2) (record {
      is = just-these seen
          ((codes "kind", string (codes "dsde-save")) ∷ (codes "parts", array (items_data row_data rows.0)) ∷ (codes "records", number_data own.0.0) ∷ (codes "time", number_data own.0.1) ∷ (codes "turn", number_data own.0.2) ∷ (codes "version", number_data (version_number version.0)) ∷ [])
          refl (v.kind, (p, (o.records, (o.time, (o.turn, (v.version_is, tt)))))) (omega arith) v.many;
      time = o.early;
      turn = o.bounded;
      records = o.few;
      parts = all.1;
    })
