-- A status and an item are read back from their columns.
use Rattle.std.proofs.Common.{◌≡◌, ℕ, ◌<◌, ◌==◌, true, false, List, [], ◌∷◌, ◌++◌, map, length, refl, sym, ap, ap₂, subst, ◌∙◌, append-nil, codes, inl, inr}
use Rattle.std.specs.List.{AllByRecursion, flat_map, list_all}
use Rattle.std.proofs.lemmas.Bool.{cases_Bool, and_parts, eqb-true}
use Rattle.std.specs.Char.{is_ascii_lowercase}
use Rattle.dip_map.specs.Charts.{Chart, IsMap, is_power_name}
use Rattle.dip_store_tables.specs.Boards.{power_name, power_in, or_zero}
use Rattle.dip_desk_state.specs.Records.{Item, White, Grey, Status, Running, Paused, Closed, Ended, Won, Drawn}
use Rattle.dip_desk_state.specs.Texts.{status_text}
use Rattle.dip_store_tables.specs.Texts.{joined}
use Rattle.dip_desk_state.specs.Writable.{Lacks, IsWord, IsStatusOf, IsPlainItem}
use Rattle.dip_store_tables.specs.Reading.{status_of, status_from, item_of}
use Rattle.dip_store_tables.specs.Writing.{box_row}
use Rattle.dip_store_tables.proofs.Pieces.{ended_back, joined_back, lacks_of}

pub item_back : (name power : List ℕ) (number : ℕ) (item : Item) → IsPlainItem item → item_of (box_row name power number item) ≡ item
item_back name power number (White writer addressees text) plain = ap₂ (White writer) (joined_back 32 addressees plain.0) (ended_back 10 text plain.1)
item_back name power number (Grey true text) plain = ap (Grey true) (ended_back 10 text plain)
item_back name power number (Grey false text) plain = ap (Grey false) (ended_back 10 text plain)

-- what is no letter stands in no word of letters
module _ (b : ℕ) (none : is_ascii_lowercase b ≡ false) where
  letter_lacks : (x : ℕ) → is_ascii_lowercase x ≡ true → (x == b) ≡ false
  letter_lacks x low = elim (cases_Bool (x == b)) [
    | inl e ↦ absurd (let same : is_ascii_lowercase b ≡ true = subst (λ y. is_ascii_lowercase y ≡ true) (eqb-true x b e) low in let x = sym same ∙ none in cc)
    | inr e ↦ e
  ]

  letters_lack : (w : List ℕ) → list_all is_ascii_lowercase w ≡ true → Lacks b w
  letters_lack [] all = tt
  letters_lack (x ∷ w) all = let parts = and_parts _ _ all in (letter_lacks x parts.0, letters_lack w parts.1)

  is_word : (w : List ℕ) → is_power_name w ≡ true → IsWord b w
  is_word [] named = absurd (cc)
  is_word (x ∷ w) named = letters_lack (x ∷ w) (and_parts _ _ (and_parts _ _ (and_parts _ _ named).1).1).0

-- the words of a status
abbrev pub status_words : Chart → Status → List (List ℕ)
status_words m Running = codes "running" ∷ []
status_words m Paused = codes "paused" ∷ []
status_words m Closed = codes "closed" ∷ []
status_words m Ended = codes "ended" ∷ []
status_words m (Won power) = codes "won" ∷ codes "by" ∷ power_name m power ∷ []
status_words m (Drawn powers) = codes "drawn" ∷ codes "by" ∷ map (power_name m) powers

names_text : (m : Chart) (ps : List ℕ) → flat_map (λ p. codes " " ++ power_name m p) ps ≡ flat_map (λ v. 32 ∷ v) (map (power_name m) ps)
names_text m [] = refl
names_text m (p ∷ ps) = ap (λ t. (32 ∷ power_name m p) ++ t) (names_text m ps)

pub words_text : (m : Chart) (s : Status) → status_text m s ≡ joined 32 (status_words m s)
unfolding status_text
words_text m Running = refl
words_text m Paused = refl
words_text m Closed = refl
words_text m Ended = refl
words_text m (Won power) = ap (λ t. codes "won by " ++ t) (sym (append-nil (power_name m power)))
words_text m (Drawn powers) = ap (λ t. codes "drawn by" ++ t) (names_text m powers)

module _ (m : Chart) (ok : IsMap m) where
  pub power_back : (p : ℕ) → p < length m.realms → power_in m (power_name m p) ≡ p
  power_back p low = ap or_zero (ok.names_found p low)

  name_word : (b : ℕ) → is_ascii_lowercase b ≡ false → (p : ℕ) → p < length m.realms → IsWord b (power_name m p)
  name_word b none p low = is_word b none (power_name m p) (and_parts _ _ (ok.realms p low)).0

  -- nor has a power's name a line end
  pub name_plain : (p : ℕ) → p < length m.realms → Lacks 10 (power_name m p)
  name_plain p low = lacks_of 10 (power_name m p) (name_word 10 refl p low)

  pub names_words : (ps : List ℕ) → AllByRecursion (λ p. p < length m.realms) ps → AllByRecursion (IsWord 32) (map (power_name m) ps)
  names_words [] all = tt
  names_words (p ∷ ps) all = (name_word 32 refl p all.0, names_words ps all.1)

  pub names_back : (ps : List ℕ) → AllByRecursion (λ p. p < length m.realms) ps → map (power_in m) (map (power_name m) ps) ≡ ps
  names_back [] all = refl
  names_back (p ∷ ps) all = ap₂ ◌∷◌ (power_back p all.0) (names_back ps all.1)

  no_space : (w : List ℕ) → list_all is_ascii_lowercase w ≡ true → Lacks 32 w
  no_space w letters = letters_lack 32 refl w letters

  pub words : (s : Status) → IsStatusOf m s → AllByRecursion (IsWord 32) (status_words m s)
  words Running of_map = (no_space (codes "running") refl, tt)
  words Paused of_map = (no_space (codes "paused") refl, tt)
  words Closed of_map = (no_space (codes "closed") refl, tt)
  words Ended of_map = (no_space (codes "ended") refl, tt)
  words (Won power) of_map = (no_space (codes "won") refl, (no_space (codes "by") refl, (name_word 32 refl power of_map, tt)))
  words (Drawn powers) of_map = (no_space (codes "drawn") refl, (no_space (codes "by") refl, names_words powers of_map))

  from_words : (s : Status) → IsStatusOf m s → status_from m (status_words m s) ≡ s
  from_words Running of_map = refl
  from_words Paused of_map = refl
  from_words Closed of_map = refl
  from_words Ended of_map = refl
  from_words (Won power) of_map = ap Won (power_back power of_map)
  from_words (Drawn powers) of_map = ap Drawn (names_back powers of_map)

  pub status_back : (s : Status) → IsStatusOf m s → status_of m (status_text m s) ≡ s
  status_back s of_map = ap (status_of m) (words_text m s) ∙ ap (status_from m) (joined_back 32 (status_words m s) (words s of_map)) ∙ from_words s of_map
