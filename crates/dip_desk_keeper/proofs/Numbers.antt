-- The papers of a game by their numbers.
use Rattle.std.proofs.Common.{◌≡◌, ◌+◌, ◌<◌, ◌≤◌, ℕ, zero, suc, List, [], ◌∷◌, ◌++◌, Option, Some, None, option_and_then, get_or, length, take, ap, ◌∙◌, append-nil, arith}
use Rattle.std.proofs.lemmas.List.{take_more}
use Rattle.std.proofs.lemmas.List.Concat.{flat_map-append}
use Rattle.std.specs.List.{flat_map}
use Rattle.dip_desk_keeper.specs.Papers.{papers_of}
use Rattle.dip_desk_state.specs.State.{Game, State, game_at, paper_at, paper_numbered}

-- the paper after so many others
numbered : (n : ℕ) (ps : List (List ℕ)) (t : List ℕ) → Some t ≡ paper_numbered (suc n) ps → (n < length ps) × (get_or ps n [] ≡ t)
numbered n [] t is = absurd (cc)
numbered zero (p ∷ ps) t is = (omega arith, let same : p ≡ t = cc in same)
numbered (suc n) (p ∷ ps) t is = let more = numbered n ps t is in (omega (arith, more.0), more.1)

-- where there is none there are no more
ended : (n : ℕ) (ps : List (List ℕ)) → None ≡ paper_numbered (suc n) ps → length ps ≤ n
ended n [] is = omega arith
ended zero (p ∷ ps) is = absurd (cc)
ended (suc n) (p ∷ ps) is = omega (arith, ended n ps is)

pub found : (game : List ℕ) (s : State) (n : ℕ) (t : List ℕ) → Some t ≡ paper_at game (suc n) s → (n < length (papers_of (game_at game s))) × (get_or (papers_of (game_at game s)) n [] ≡ t)
found game s n t is = go (game_at game s) is
  where
    go : (g : Option Game) → Some t ≡ option_and_then (λ g. paper_numbered (suc n) g.papers) g → (n < length (papers_of g)) × (get_or (papers_of g) n [] ≡ t)
    go None is = absurd (cc)
    go (Some g) is = numbered n g.papers t is

pub no_more : (game : List ℕ) (s : State) (n : ℕ) → None ≡ paper_at game (suc n) s → length (papers_of (game_at game s)) ≤ n
no_more game s n is = go (game_at game s) is
  where
    go : (g : Option Game) → None ≡ option_and_then (λ g. paper_numbered (suc n) g.papers) g → length (papers_of g) ≤ n
    go None is = omega arith
    go (Some g) is = ended n g.papers is

-- one paper more
pub one_more : (ps : List (List ℕ)) (n : ℕ) (t : List ℕ) → n < length ps → get_or ps n [] ≡ t → flat_map (λ p. p) (take (n + 1) ps) ≡ flat_map (λ p. p) (take n ps) ++ t
one_more ps n t inside is =
    ap (flat_map (λ p. p)) (take_more ps n [] inside) ∙ flat_map-append (λ p. p) (take n ps) (get_or ps n [] ∷ []) ∙ ap (λ s. flat_map (λ p. p) (take n ps) ++ s) (append-nil (get_or ps n []) ∙ is)
