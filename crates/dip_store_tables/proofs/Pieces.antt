-- Words and lines are found again in their text.
use Rattle.std.proofs.Common.{◌≡◌, ℕ, List, [], ◌∷◌, ◌++◌, refl, ap, ◌∙◌, append-nil, append_assoc}
use Rattle.std.specs.List.{AllByRecursion}
use Rattle.std.proofs.lemmas.Bool.{eq-eqb}
use Rattle.dip_store_tables.specs.Texts.{joined, ended, longer, pieces}
use Rattle.dip_desk_state.specs.Writable.{Lacks, IsWord}

-- what stands before the first such byte is the first piece
pub line_first : (b : ℕ) (w rest : List ℕ) → Lacks b w → pieces b (w ++ b ∷ rest) ≡ w ∷ pieces b rest
line_first b [] rest lacks = rw (eq-eqb b b refl) refl
line_first b (x ∷ w) rest lacks = rw lacks.0 (ap (longer x) (line_first b w rest lacks.1))

-- a word is one piece
pub word_alone : (b : ℕ) (w : List ℕ) → IsWord b w → pieces b w ≡ w ∷ []
word_alone b [] word = absurd word
word_alone b (x ∷ []) word = rw word.0 refl
word_alone b (x ∷ y ∷ w) word = rw word.0 (ap (longer x) (word_alone b (y ∷ w) word.1))

pub lacks_of : (b : ℕ) (w : List ℕ) → IsWord b w → Lacks b w
lacks_of b [] word = tt
lacks_of b (x ∷ w) word = word

pub ended_back : (b : ℕ) (ls : List (List ℕ)) → AllByRecursion (Lacks b) ls → pieces b (ended b ls) ≡ ls
ended_back b [] all = refl
ended_back b (l ∷ ls) all =
    ap (pieces b) (append_assoc l (b ∷ []) (ended b ls)) ∙ line_first b l (ended b ls) all.0 ∙ ap (λ more. l ∷ more) (ended_back b ls all.1)

pub joined_back : (b : ℕ) (ws : List (List ℕ)) → AllByRecursion (IsWord b) ws → pieces b (joined b ws) ≡ ws
joined_back b [] all = refl
joined_back b (w ∷ []) all = ap (pieces b) (append-nil w) ∙ word_alone b w all.0
joined_back b (w ∷ v ∷ ws) all = line_first b w (joined b (v ∷ ws)) (lacks_of b w all.0) ∙ ap (λ more. w ∷ more) (joined_back b (v ∷ ws) all.1)
