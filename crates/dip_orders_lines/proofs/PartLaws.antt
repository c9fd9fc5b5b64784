use Rattle.std.proofs.Common.{◌≡◌, ℕ, ◌≤◌, ◌==◌, ◌&&◌, true, length, List, [], ◌∷◌, ◌++◌, refl, sym, ◌∙◌, subst, inl, inr, arith, nat_le, nat_lt, Option, Some, None, codes}
use Rattle.std.proofs.lemmas.Bool.{and_parts, cases_Bool, eqb-true, ltb-true, leb-true}
use Rattle.std.proofs.lemmas.List.{append-nil}
use Rattle.std.proofs.lemmas.Slice.Eq.{bytes_eq-Decides}
use Rattle.std.proofs.lemmas.Bool.Decides.{nat_tests}
use Rattle.std.specs.Str.{bytes_eq}
use Rattle.std.specs.Char.{to_ascii_lowercase, is_ascii_lowercase}
use Rattle.std.specs.Cmp.Derive.{both_true}
use Rattle.dip_orders_lines.specs.Forms.{are_letters, coast_text, is_coast, spot_text, is_spot, kind_text, small}
use Rattle.dip_orders_lines.specs.Reading.{letter_at, code_at, coast_at, bare_at, coasted_at, spot_at, kind_at, mention_at}
use Rattle.dip_names.specs.Options.{◌>>=◌}
use Rattle.dip_names.specs.declared.names.Kind.{Kind}
use Rattle.dip_names.specs.declared.names.Kind.TheVariants.{Army, Fleet}
use Rattle.dip_orders_lines.specs.declared.forms.Spot.{Spot}
use Rattle.dip_orders_lines.specs.declared.forms.Mention.{Mention}

-- what a chain answers came through its first link
pub bound : {A B : Type 0} (o : Option A) (f : A → Option B) (y : B) → (o >>= f) ≡ Some y → (x : A) × (o ≡ Some x) × (f x ≡ Some y)
bound None f y h = absurd (cc)
bound (Some x) f y h = (x, refl, h)

letter_takes : (b x : ℕ) → letter_at b ≡ Some x → (to_ascii_lowercase b ≡ x) × (is_ascii_lowercase x ≡ true)
letter_takes b x h =
    elim (cases_Bool (is_ascii_lowercase (to_ascii_lowercase b))) [
      | inl letter ↦
          let same : Some (to_ascii_lowercase b) ≡ Some x = rw letter at h in
          let e : to_ascii_lowercase b ≡ x = cc in
          (e, subst (λ (n : ℕ). is_ascii_lowercase n ≡ true) e letter)
      | inr other ↦ let none : None ≡ Some x = rw other at h in absurd (cc)
    ]

code_takes : (a b c : ℕ) (code : List ℕ) → code_at a b c ≡ Some code → (small (a ∷ b ∷ c ∷ []) ≡ code) × (are_letters 3 code ≡ true)
code_takes a b c code h =
    let (x, ex, h1) = bound (letter_at a) (λ x. letter_at b >>= (λ y. letter_at c >>= (λ z. Some (x ∷ y ∷ z ∷ [])))) code h in
    let (y, ey, h2) = bound (letter_at b) (λ y. letter_at c >>= (λ z. Some (x ∷ y ∷ z ∷ []))) code h1 in
    let (z, ez, h3) = bound (letter_at c) (λ z. Some (x ∷ y ∷ z ∷ [])) code h2 in
    let (sx, lx) = letter_takes a x ex in
    let (sy, ly) = letter_takes b y ey in
    let (sz, lz) = letter_takes c z ez in
    let is : x ∷ y ∷ z ∷ [] ≡ code = cc in
    let letters : are_letters 3 (x ∷ y ∷ z ∷ []) ≡ true = both_true lx (both_true ly (both_true lz refl)) in
    let text : to_ascii_lowercase a ∷ to_ascii_lowercase b ∷ to_ascii_lowercase c ∷ [] ≡ code = cc in
    (text, subst (λ (t : List ℕ). are_letters 3 t ≡ true) is letters)

coast_takes : (a b : ℕ) (name : List ℕ) → coast_at a b ≡ Some name → (small (a ∷ b ∷ []) ≡ name) × (are_letters 2 name ≡ true)
coast_takes a b name h =
    let (x, ex, h1) = bound (letter_at a) (λ x. letter_at b >>= (λ y. Some (x ∷ y ∷ []))) name h in
    let (y, ey, h2) = bound (letter_at b) (λ y. Some (x ∷ y ∷ [])) name h1 in
    let (sx, lx) = letter_takes a x ex in
    let (sy, ly) = letter_takes b y ey in
    let is : x ∷ y ∷ [] ≡ name = cc in
    let letters : are_letters 2 (x ∷ y ∷ []) ≡ true = both_true lx (both_true ly refl) in
    let text : to_ascii_lowercase a ∷ to_ascii_lowercase b ∷ [] ≡ name = cc in
    (text, subst (λ (t : List ℕ). are_letters 2 t ≡ true) is letters)

bare_takes : (a b c : ℕ) (s : Spot) → bare_at a b c ≡ Some s → (small (a ∷ b ∷ c ∷ []) ≡ spot_text s) × (is_spot s ≡ true)
bare_takes a b c s h =
    let (code, found, is) = bound (code_at a b c) (λ k. Some (record { code = k; coast = None })) s h in
    let (same, letters) = code_takes a b c code found in
    let whole : record { code = code; coast = None } ≡ s = cc in
    subst (λ (x : Spot). (small (a ∷ b ∷ c ∷ []) ≡ spot_text x) × (is_spot x ≡ true)) whole (same ∙ sym (append-nil code), both_true letters refl)

coasted_takes : (a b c d e : ℕ) (s : Spot) → coasted_at a b c d e ≡ Some s → (small (a ∷ b ∷ c ∷ 47 ∷ d ∷ e ∷ []) ≡ spot_text s) × (is_spot s ≡ true)
coasted_takes a b c d e s h =
    let (code, found, rest) = bound (code_at a b c) (λ k. coast_at d e >>= (λ n. Some (record { code = k; coast = Some n }))) s h in
    let (name, named, is) = bound (coast_at d e) (λ n. Some (record { code = code; coast = Some n })) s rest in
    let (same, letters) = code_takes a b c code found in
    let (same_name, name_letters) = coast_takes d e name named in
    let whole : record { code = code; coast = Some name } ≡ s = cc in
    let text : small (a ∷ b ∷ c ∷ []) ++ 47 ∷ small (d ∷ e ∷ []) ≡ code ++ 47 ∷ name = cc in
    subst (λ (x : Spot). (small (a ∷ b ∷ c ∷ 47 ∷ d ∷ e ∷ []) ≡ spot_text x) × (is_spot x ≡ true)) whole (text, both_true letters name_letters)

pub spot_takes : (t : List ℕ) (s : Spot) → spot_at t ≡ Some s → (small t ≡ spot_text s) × (is_spot s ≡ true)
spot_takes [] s h = absurd (cc)
spot_takes (a ∷ []) s h = absurd (cc)
spot_takes (a ∷ b ∷ []) s h = absurd (cc)
spot_takes (a ∷ b ∷ c ∷ []) s h = bare_takes a b c s h
spot_takes (a ∷ b ∷ c ∷ d ∷ []) s h = absurd (cc)
spot_takes (a ∷ b ∷ c ∷ d ∷ e ∷ []) s h = absurd (cc)
spot_takes (a ∷ b ∷ c ∷ x ∷ d ∷ e ∷ []) s h =
    elim (cases_Bool (x == 47)) [
      | inl slash ↦
          let found : coasted_at a b c d e ≡ Some s = rw slash at h in
          subst (λ (n : ℕ). (small (a ∷ b ∷ c ∷ n ∷ d ∷ e ∷ []) ≡ spot_text s) × (is_spot s ≡ true)) (sym (eqb-true x 47 slash)) (coasted_takes a b c d e s found)
      | inr other ↦ let none : None ≡ Some s = rw other at h in absurd (cc)
    ]
spot_takes (a ∷ b ∷ c ∷ x ∷ d ∷ e ∷ f ∷ more) s h = absurd (cc)

kind_takes : (t : List ℕ) (k : Kind) → kind_at t ≡ Some k → small t ≡ kind_text k
kind_takes t k h =
    elim (cases_Bool (bytes_eq (small t) (codes "a"))) [
      | inl army ↦
          let is : Some Army ≡ Some k = rw army at h in
          let e : Army ≡ k = cc in
          subst (λ (x : Kind). small t ≡ kind_text x) e ((bytes_eq-Decides _ _).0 army)
      | inr other ↦
          elim (cases_Bool (bytes_eq (small t) (codes "f"))) [
            | inl fleet ↦
                let is : Some Fleet ≡ Some k = rw (other, fleet) at h in
                let e : Fleet ≡ k = cc in
                subst (λ (x : Kind). small t ≡ kind_text x) e ((bytes_eq-Decides _ _).0 fleet)
            | inr neither ↦ let none : None ≡ Some k = rw (other, neither) at h in absurd (cc)
          ]
    ]

-- two tokens are a unit: in small letters they are its words, and its place is a word of a place
abbrev pub IsMention : List ℕ → List ℕ → Mention → Type 0
IsMention kind at u = (small kind ≡ kind_text u.kind) × ((small at ≡ spot_text u.at) × (is_spot u.at ≡ true))

pub mention_takes : (kind at : List ℕ) (u : Mention) → mention_at kind at ≡ Some u → IsMention kind at u
mention_takes kind at u h =
    let (k, ek, h1) = bound (kind_at kind) (λ x. spot_at at >>= (λ y. Some (record { kind = x; at = y }))) u h in
    let (s, es, h2) = bound (spot_at at) (λ y. Some (record { kind = k; at = y })) u h1 in
    let is : record { kind = k; at = s } ≡ u = cc in
    let spot = spot_takes at s es in
    subst (λ (x : Mention). IsMention kind at x) is (kind_takes kind k ek, spot)

-- a small letter stays as it is
pub letter_small : (b : ℕ) → is_ascii_lowercase b ≡ true → to_ascii_lowercase b ≡ b
letter_small b h =
    let (least, most) = and_parts (nat_le 97 b) (nat_le b 122) h in
    let low : 97 ≤ b = leb-true _ _ least in
    elim (cases_Bool (nat_lt b 65)) [
      | inl below ↦ absurd (omega (arith, ltb-true _ _ below))
      | inr other ↦
          rw other (elim (cases_Bool (nat_lt b 91)) [
            | inl below ↦ absurd (omega (arith, ltb-true _ _ below))
            | inr above ↦ rw above refl
          ])
    ]

letter_form : (b : ℕ) → is_ascii_lowercase b ≡ true → letter_at b ≡ Some b
letter_form b h = rw (letter_small b h, h) refl

code_form : (a b c : ℕ) → are_letters 3 (a ∷ b ∷ c ∷ []) ≡ true → code_at a b c ≡ Some (a ∷ b ∷ c ∷ [])
code_form a b c h =
    let (la, more) = and_parts _ _ h in
    let (lb, last) = and_parts _ _ more in
    let (lc, _) = and_parts _ _ last in
    rw (letter_form a la, letter_form b lb, letter_form c lc) refl

coast_form : (a b : ℕ) → are_letters 2 (a ∷ b ∷ []) ≡ true → coast_at a b ≡ Some (a ∷ b ∷ [])
coast_form a b h =
    let (la, more) = and_parts _ _ h in
    let (lb, _) = and_parts _ _ more in
    rw (letter_form a la, letter_form b lb) refl

-- the wrong number of letters
short : {P : Type 0} (n : ℕ) (t : List ℕ) → are_letters n t ≡ true → (length t ≡ n → ⊥) → P
short n t h no_such = absurd (no_such (eqb-true _ _ (and_parts _ _ h).0))

coasted_form : (a b c : ℕ) (name : List ℕ) → are_letters 3 (a ∷ b ∷ c ∷ []) ≡ true → are_letters 2 name ≡ true
    → spot_at (a ∷ b ∷ c ∷ 47 ∷ name) ≡ Some (record { code = a ∷ b ∷ c ∷ []; coast = Some name })
coasted_form a b c [] h n = short 2 [] n (λ e. omega arith)
coasted_form a b c (d ∷ []) h n = short 2 (d ∷ []) n (λ e. omega arith)
coasted_form a b c (d ∷ e ∷ []) h n = rw (code_form a b c h, coast_form d e n) refl
coasted_form a b c (d ∷ e ∷ f ∷ more) h n = short 2 (d ∷ e ∷ f ∷ more) n (λ e. omega arith)

spot_with : (code : List ℕ) (coast : Option (List ℕ)) → are_letters 3 code ≡ true → is_coast coast ≡ true
    → spot_at (code ++ coast_text coast) ≡ Some (record { code = code; coast = coast })
spot_with [] coast h ok = short 3 [] h (λ e. omega arith)
spot_with (a ∷ []) coast h ok = short 3 (a ∷ []) h (λ e. omega arith)
spot_with (a ∷ b ∷ []) coast h ok = short 3 (a ∷ b ∷ []) h (λ e. omega arith)
spot_with (a ∷ b ∷ c ∷ []) None h ok = rw (code_form a b c h) refl
spot_with (a ∷ b ∷ c ∷ []) (Some name) h ok = coasted_form a b c name h ok
spot_with (a ∷ b ∷ c ∷ d ∷ more) coast h ok = short 3 (a ∷ b ∷ c ∷ d ∷ more) h (λ e. omega arith)

-- the word of a place is read as that place
pub spot_form : (s : Spot) → is_spot s ≡ true → spot_at (spot_text s) ≡ Some s
spot_form s ok = let (letters, coast) = and_parts (are_letters 3 s.code) (is_coast s.coast) ok in spot_with s.code s.coast letters coast

kind_form : (k : Kind) → kind_at (kind_text k) ≡ Some k
kind_form Army = refl
kind_form Fleet = refl

-- the words of a unit are read as that unit
pub mention_form : (u : Mention) → is_spot u.at ≡ true → mention_at (kind_text u.kind) (spot_text u.at) ≡ Some u
mention_form u ok = rw (kind_form u.kind, spot_form u.at ok) refl

lower_twice : (b : ℕ) → to_ascii_lowercase (to_ascii_lowercase b) ≡ to_ascii_lowercase b
lower_twice b = grind (arith, nat_tests)

-- reading ignores the case
pub small_twice : (t : List ℕ) → small (small t) ≡ small t
small_twice [] = refl
small_twice (b ∷ bs) = rw (lower_twice b, small_twice bs) refl

slash_same : (x : ℕ) → (to_ascii_lowercase x == 47) ≡ (x == 47)
slash_same x = grind (arith, nat_tests)

pub spot_same : (t : List ℕ) → spot_at (small t) ≡ spot_at t
spot_same [] = refl
spot_same (a ∷ []) = refl
spot_same (a ∷ b ∷ []) = refl
spot_same (a ∷ b ∷ c ∷ []) = rw (lower_twice a, lower_twice b, lower_twice c) refl
spot_same (a ∷ b ∷ c ∷ d ∷ []) = refl
spot_same (a ∷ b ∷ c ∷ d ∷ e ∷ []) = refl
spot_same (a ∷ b ∷ c ∷ x ∷ d ∷ e ∷ []) = rw (slash_same x, lower_twice a, lower_twice b, lower_twice c, lower_twice d, lower_twice e) refl
spot_same (a ∷ b ∷ c ∷ x ∷ d ∷ e ∷ f ∷ more) = refl

pub mention_same : (kind at : List ℕ) → mention_at (small kind) (small at) ≡ mention_at kind at
mention_same kind at = rw (small_twice kind, spot_same at) refl

-- the places of a form, one by one
pub one_spot : (s : Spot) → (is_spot s && true) ≡ true → is_spot s ≡ true
one_spot s ok = (and_parts (is_spot s) true ok).0

pub two_spots : (s t : Spot) → (is_spot s && (is_spot t && true)) ≡ true → (is_spot s ≡ true) × (is_spot t ≡ true)
two_spots s t ok = let (here, more) = and_parts (is_spot s) (is_spot t && true) ok in (here, one_spot t more)

pub three_spots : (s t r : Spot) → (is_spot s && (is_spot t && (is_spot r && true))) ≡ true → (is_spot s ≡ true) × ((is_spot t ≡ true) × (is_spot r ≡ true))
three_spots s t r ok = let (here, more) = and_parts (is_spot s) (is_spot t && (is_spot r && true)) ok in (here, two_spots t r more)
