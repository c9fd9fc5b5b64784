-- What is remembered of a game is what its rows say.
use Rattle.std.proofs.Common.{◌≡◌, List, ℕ, Option, None, Some, option_map, bytes_eq, refl, sym, ap, subst, ◌∙◌}
use Rattle.std.specs.List.{find}
use Rattle.dip_map.specs.Charts.{Chart}
use Rattle.dip_desk_state.specs.Records.{Public}
use Rattle.dip_desk_state.specs.State.{Change, Game, State, game_at, name_of, public_at}
use Rattle.dip_desk_state.proofs.KeyedLemmas.{at_key, names_tell}
use Rattle.dip_store_tables.specs.Reading.{public_of, state_of}
use Rattle.dip_store_tables.specs.Tables.{Tables, is_named}
use Rattle.dip_store_tables.proofs.Found.{map_twice, public_is_found}
use Rattle.dip_store_looks.specs.Asked.{IsPartKnown}
use Rattle.dip_store_counts.specs.Knowing.{ArePapersKnown}
use Rattle.dip_store_memory.specs.Seen.{Parts, Recalls, named_part, part_of, replaced_papers}
use Rattle.dip_store_memory.proofs.Seeing.{replaced}

-- the public part that is found under a name has it
part_named : (name : List ℕ) (s : State) (p : Public) → public_at name s ≡ Some p → p.game ≡ name
part_named name s p = go (game_at name s) refl
  where
    go : (o : Option Game) → game_at name s ≡ o → option_map (λ g. g.public) o ≡ Some p → p.game ≡ name
    go None found is = absurd (cc)
    go (Some g) found is =
        let same : g.public ≡ p = cc in
        ap (λ (x : Public). x.game) (sym same) ∙ names_tell.same (name_of g) name (at_key bytes_eq name_of name s.games g found)

-- a copy of a part that is remembered, under its game's name
pub part_known : (m : Chart) (t : Tables) (name : List ℕ) (known : Option Public) (ps : Parts) → known ≡ named_part name ps → Recalls (state_of m t) ps
    → IsPartKnown known m name t
part_known m t name known ps is recalls = subst (λ (o : Option Public). IsPartKnown o m name t) (sym is) (go (part_of name ps) refl)
  where
    go : (o : Option Public) → part_of name ps ≡ o → IsPartKnown (option_map (λ (p : Public). record p { game = name }) o) m name t
    go None found = tt
    go (Some p) found =
        let at = recalls name p found in
        ap (λ (n : List ℕ). Some (record p { game = n })) (sym (part_named name (state_of m t) p at)) ∙ sym at ∙ public_is_found m t name

-- how many papers a game has whose part was remembered
pub papers_known : (m : Chart) (t : Tables) (c : Change) (papers : Option ℕ) (ps : Parts) → papers ≡ replaced_papers c ps → Recalls (state_of m t) ps → ArePapersKnown papers c.game t.games
papers_known m t c None ps is recalls = tt
papers_known m t c (Some n) ps is recalls =
    sym (replaced c (state_of m t) ps n (sym is) recalls)
    ∙ ap (option_map (λ (p : Public). p.papers)) (public_is_found m t c.game)
    ∙ map_twice (λ (p : Public). p.papers) (public_of m t.units t.centres t.choices) (find (is_named c.game) t.games)
