use Rattle.std.proofs.Common.{◌≡◌, ℕ, zero, suc, ◌<◌, ◌≤◌, true, List, [], ◌∷◌, length, get_or, drop, Ok, Err, refl, ap, ◌∙◌, arith}
use Rattle.parts.specs.declared.fault.Cause.TheVariants.{ReplayEnded}
use Rattle.parts.specs.Meaning.{Keeps, fault}
use Rattle.store_laws.specs.ReplayMachine.{Recorded, fits, next_word, replay_read, replay_meaning}

module _ (s : Recorded) (a : ℕ) where
  next_at : (ws : List ℕ) (i : ℕ) → i < length ws → next_word s a (drop i ws) ≡ (Ok (get_or ws i 0), record { left = drop (suc i) ws; cells = s.cells; wide = s.wide })
  next_at [] i lt = absurd (omega arith)
  next_at (x ∷ xs) zero lt = refl
  next_at (x ∷ xs) (suc i) lt = next_at xs i (omega arith)

  none_at : (ws : List ℕ) (i : ℕ) → length ws ≤ i → next_word s a (drop i ws) ≡ (Err (fault ReplayEnded 0 a), s)
  none_at [] zero le = refl
  none_at [] (suc i) le = refl
  none_at (x ∷ xs) zero le = absurd (omega arith)
  none_at (x ∷ xs) (suc i) le = none_at xs i (omega arith)

  -- Where i of the words ws were answered, the word at i is answered next ..
  pub read_at : (ws : List ℕ) (i : ℕ) → fits s ≡ true → s.left ≡ drop i ws → i < length ws → replay_read s a ≡ (Ok (get_or ws i 0), record { left = drop (suc i) ws; cells = s.cells; wide = s.wide })
  read_at ws i f e lt = rw f (ap (next_word s a) e ∙ next_at ws i lt)

  -- .. and after the last of them the replay has ended.
  pub read_ended : (ws : List ℕ) (i : ℕ) → fits s ≡ true → s.left ≡ drop i ws → length ws ≤ i → replay_read s a ≡ (Err (fault ReplayEnded 0 a), s)
  read_ended ws i f e le = rw f (ap (next_word s a) e ∙ none_at ws i le)

-- nothing is owed by what is never loyal
pub replay_keeps : Keeps replay_meaning
replay_keeps = record {
  sized = λ s h. absurd h;
  below = λ s h. absurd h;
  reads = λ s h. absurd h;
  read_leaves = λ s h. absurd h;
  writes = λ s h. absurd h;
  write_leaves = λ s h. absurd h;
}
