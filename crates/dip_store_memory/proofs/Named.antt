-- What lies in memory under names.
use Rattle.std.proofs.Common.{◌≡◌, ℕ, Bool, true, false, cond, List, [], ◌∷◌, Option, None, Some, map, option_map, option_copied, Bor, refl, sym, ap, ◌∙◌, bytes_eq, String, string_bytes}
use Rattle.std.specs.declared.alloc.Global.{Global}
use Rattle.std.specs.Map.{lookup}
use Rattle.std.specs.String.{string_eq}
use Rattle.indexmap.specs.IndexMap.{IndexMap, UpdatesBy}
use Rattle.std.proofs.lemmas.Map.Text.{hash_map_updates_text}

module _ {V W : Type 0} (say : V → W) where
  -- the entries, each by its name and what its value says
  abbrev pub said : List (String Global × V) → List (List ℕ × W)
  said es = map (λ e. (string_bytes e.0, say e.1)) es

  -- what is found under a name says what is said under it
  pub found_said : (name : List ℕ) (es : List (String Global × V)) → option_map say (lookup (λ k. bytes_eq name (string_bytes k)) es) ≡ lookup (bytes_eq name) (said es)
  found_said name [] = refl
  found_said name (e ∷ es) = go (bytes_eq name (string_bytes e.0)) (found_said name es)
    where
      go : (b : Bool) → option_map say (lookup (λ k. bytes_eq name (string_bytes k)) es) ≡ lookup (bytes_eq name) (said es)
          → option_map say (cond b (Some e.1) (lookup (λ k. bytes_eq name (string_bytes k)) es)) ≡ cond b (Some (say e.1)) (lookup (bytes_eq name) (said es))
      go true more = refl
      go false more = more

  -- what a change at a name leaves under each
  pub updated_said : {S : Type 0} (bs : List ℕ) (m n : IndexMap (String Global) V S) (w : Option V) → UpdatesBy string_eq (λ k. bytes_eq bs (string_bytes k)) m n w
      → (other : List ℕ) → lookup (bytes_eq other) (said n.entries) ≡ cond (bytes_eq bs other) (option_map say w) (lookup (bytes_eq other) (said m.entries))
  updated_said bs m n w updates other =
      sym (found_said other n.entries)
      ∙ ap (λ (o : Option V). option_map say o) (hash_map_updates_text bs m n w updates other)
      ∙ over (bytes_eq bs other) (lookup (λ k. bytes_eq other (string_bytes k)) m.entries)
      ∙ ap (λ (o : Option W). cond (bytes_eq bs other) (option_map say w) o) (found_said other m.entries)
    where
      over : (b : Bool) (o : Option V) → option_map say (cond b w o) ≡ cond b (option_map say w) (option_map say o)
      over true o = refl
      over false o = refl

  -- what is lent says what lies there
  pub lent_said : (o : Option (Bor V)) → option_map (λ p. say p.now) o ≡ option_map say (option_copied o)
  lent_said None = refl
  lent_said (Some p) = refl
