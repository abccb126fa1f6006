-- A history by its epochs, and what its events say of them.
use Rattle.std.proofs.Common.{◌≡◌, ℕ, zero, suc, ◌+◌, Bool, true, false, cond, nat_eq, ◌⊎◌, List, [], ◌∷◌, ◌++◌, length, take, sym, refl, ap, ◌∙◌, subst, inl, inr, append_assoc, append-nil, arith}
use mathlib.Core.Path.{fun_ext}
use Rattle.std.proofs.lemmas.Bool.{cases_Bool}
use Rattle.memory_laws.specs.Checked.{record_of}
use Rattle.memory_laws.specs.History.{Event, did_read, did_write, sweep_begins, sweep_ends, taken, update, misread_from, misread, count, Same, Bags, epochs_from, epochs}
use Rattle.memory_laws.proofs.Touches.{Touch, Epoch, reads, writes, stale, words_after, present, bag_read, bag_written, touches, Each, Sweeps, stale_append, words_after_append, whole}

-- the epochs that ended, and the touches of the open one
pub record Hist : Type 0 where
  pub past : List Epoch
  pub own : List Touch

abbrev pub all : Hist → List Touch
all h = touches h.past ++ h.own

abbrev pub fresh : Hist
fresh = record { past = []; own = [] }

-- one touch more, and an epoch ended by a sweep
abbrev pub push : Hist → Touch → Hist
push h t = record { past = h.past; own = h.own ++ t ∷ [] }

abbrev pub close : Hist → List Touch → Hist
close h sw = record { past = h.past ++ record { own = h.own; sweep = sw } ∷ []; own = [] }

-- the words last written before the making
abbrev pub zeros : ℕ → ℕ
zeros _ = 0

-- the making writes the word 0 to k cells from a up
abbrev pub made_from : ℕ → ℕ → List Event
made_from a zero = []
made_from a (suc k) = did_write a 0 ∷ made_from (suc a) k

abbrev pub made_records : ℕ → ℕ → List ℕ
made_records a zero = []
made_records a (suc k) = record_of a 0 ∷ made_records (suc a) k

-- the events of touches, of an epoch and of a history
abbrev pub pairs : List Touch → List Event
pairs [] = []
pairs (t ∷ ts) = did_read t.cell t.got ∷ did_write t.cell t.put ∷ pairs ts

abbrev pub epoch_events : Epoch → List Event
epoch_events e = pairs e.own ++ (sweep_begins ∷ (pairs e.sweep ++ sweep_ends ∷ []))

abbrev pub past_events : List Epoch → List Event
past_events [] = []
past_events (e ∷ es) = epoch_events e ++ past_events es

abbrev pub flat : ℕ → Hist → List Event
flat n h = made_from 0 n ++ (past_events h.past ++ pairs h.own)

-- the records of the writes that began the epoch after some others
abbrev pub began : List ℕ → List Epoch → List ℕ
began w [] = w
began w (e ∷ es) = began (writes e.sweep) es

-- no sweep ends among the events
abbrev pub Endless : List Event → Type 0
Endless [] = Unit {0}
Endless (did_read a x ∷ h) = Endless h
Endless (did_write a x ∷ h) = Endless h
Endless (sweep_begins ∷ h) = Endless h
Endless (sweep_ends ∷ h) = ⊥

pub endless_append : (xs ys : List Event) → Endless xs → Endless ys → Endless (xs ++ ys)
endless_append [] ys p q = q
endless_append (did_read a x ∷ xs) ys p q = endless_append xs ys p q
endless_append (did_write a x ∷ xs) ys p q = endless_append xs ys p q
endless_append (sweep_begins ∷ xs) ys p q = endless_append xs ys p q
endless_append (sweep_ends ∷ xs) ys p q = absurd p

endless_pairs : (ts : List Touch) → Endless (pairs ts)
endless_pairs [] = tt
endless_pairs (t ∷ ts) = endless_pairs ts

endless_made : (a k : ℕ) → Endless (made_from a k)
endless_made a zero = tt
endless_made a (suc k) = endless_made (suc a) k

-- longer histories
pub pairs_append : (xs ys : List Touch) → pairs (xs ++ ys) ≡ pairs xs ++ pairs ys
pairs_append [] ys = refl
pairs_append (t ∷ ts) ys = ap (λ (k : List Event). did_read t.cell t.got ∷ did_write t.cell t.put ∷ k) (pairs_append ts ys)

past_append : (es fs : List Epoch) → past_events (es ++ fs) ≡ past_events es ++ past_events fs
past_append [] fs = refl
past_append (e ∷ es) fs = ap (λ (k : List Event). epoch_events e ++ k) (past_append es fs) ∙ sym (append_assoc (epoch_events e) (past_events es) (past_events fs))

pub flat_push : (n : ℕ) (h : Hist) (t : Touch) → flat n (push h t) ≡ flat n h ++ did_read t.cell t.got ∷ did_write t.cell t.put ∷ []
flat_push n h t =
    ap (λ (k : List Event). made_from 0 n ++ (past_events h.past ++ k)) (pairs_append h.own (t ∷ []))
    ∙ ap (λ (k : List Event). made_from 0 n ++ k) (sym (append_assoc (past_events h.past) (pairs h.own) (pairs (t ∷ []))))
    ∙ sym (append_assoc (made_from 0 n) (past_events h.past ++ pairs h.own) (pairs (t ∷ [])))

pub flat_close : (n : ℕ) (h : Hist) (sw : List Touch) → flat n (close h sw) ≡ flat n h ++ (sweep_begins ∷ (pairs sw ++ sweep_ends ∷ []))
flat_close n h sw =
    let e : Epoch = record { own = h.own; sweep = sw } in
    let more : List Event = sweep_begins ∷ (pairs sw ++ sweep_ends ∷ []) in
    ap (λ (k : List Event). made_from 0 n ++ k)
    (append-nil (past_events (h.past ++ e ∷ [])) ∙ past_append h.past (e ∷ []) ∙ ap (λ (k : List Event). past_events h.past ++ k) (append-nil (epoch_events e)) ∙ sym (append_assoc (past_events h.past) (pairs h.own) more))
    ∙ sym (append_assoc (made_from 0 n) (past_events h.past ++ pairs h.own) more)

pub touches_append : (es fs : List Epoch) → touches (es ++ fs) ≡ touches es ++ touches fs
touches_append [] fs = refl
touches_append (e ∷ es) fs =
    rw (touches_append es fs, append_assoc e.own (e.sweep ++ touches es) (touches fs), append_assoc e.sweep (touches es) (touches fs)) refl

pub all_push : (h : Hist) (t : Touch) → all (push h t) ≡ all h ++ t ∷ []
all_push h t = sym (append_assoc (touches h.past) h.own (t ∷ []))

pub all_close : (h : Hist) (sw : List Touch) → all (close h sw) ≡ all h ++ sw
all_close h sw =
    append-nil (touches (h.past ++ record { own = h.own; sweep = sw } ∷ []))
    ∙ touches_append h.past (record { own = h.own; sweep = sw } ∷ [])
    ∙ ap (λ (k : List Touch). touches h.past ++ (h.own ++ k)) (append-nil sw)
    ∙ sym (append_assoc (touches h.past) h.own sw)

-- false words
misread_pairs : (last : ℕ → ℕ) (ts : List Touch) (h : List Event) → misread_from last (pairs ts ++ h) ≡ stale last ts + misread_from (words_after last ts) h
misread_pairs last [] h = omega arith
misread_pairs last (t ∷ ts) h = omega (arith, misread_pairs (update last t.cell t.put) ts h)

misread_end : (last : ℕ → ℕ) (h : List Event) → misread_from last (h ++ sweep_ends ∷ []) ≡ misread_from last h
misread_end last [] = refl
misread_end last (did_read a x ∷ h) = ap (λ (k : ℕ). cond (nat_eq x (last a)) 0 1 + k) (misread_end last h)
misread_end last (did_write a x ∷ h) = misread_end (update last a x) h
misread_end last (sweep_begins ∷ h) = misread_end last h
misread_end last (sweep_ends ∷ h) = misread_end last h

misread_epoch : (last : ℕ → ℕ) (e : Epoch) (h : List Event) → misread_from last (epoch_events e ++ h) ≡ stale last (whole e) + misread_from (words_after last (whole e)) h
misread_epoch last e h =
    ap (misread_from last) (append_assoc (pairs e.own) (sweep_begins ∷ (pairs e.sweep ++ sweep_ends ∷ [])) h ∙ ap (λ (k : List Event). pairs e.own ++ (sweep_begins ∷ k)) (append_assoc (pairs e.sweep) (sweep_ends ∷ []) h))
    ∙ rw (words_after_append last e.own e.sweep)
    (omega (arith, misread_pairs last e.own (sweep_begins ∷ (pairs e.sweep ++ sweep_ends ∷ h)), misread_pairs (words_after last e.own) e.sweep (sweep_ends ∷ h), stale_append last e.own e.sweep))

misread_past : (last : ℕ → ℕ) (es : List Epoch) (h : List Event) → misread_from last (past_events es ++ h) ≡ stale last (touches es) + misread_from (words_after last (touches es)) h
misread_past last [] h = omega arith
misread_past last (e ∷ es) h =
    let w = words_after last (whole e) in
    let back : whole e ++ touches es ≡ touches (e ∷ es) = append_assoc e.own e.sweep (touches es) in
    let s : stale last (touches (e ∷ es)) ≡ stale last (whole e) + stale w (touches es) = ap (stale last) (sym back) ∙ stale_append last (whole e) (touches es) in
    let a : words_after last (touches (e ∷ es)) ≡ words_after w (touches es) = ap (words_after last) (sym back) ∙ words_after_append last (whole e) (touches es) in
    ap (misread_from last) (append_assoc (epoch_events e) (past_events es) h)
    ∙ rw a (omega (arith, misread_epoch last e (past_events es ++ h), misread_past w es h, s))

still_zeros : (a : ℕ) → update zeros a 0 ≡ zeros
still_zeros a = fun_ext (λ b. elim (cases_Bool (nat_eq b a)) [ inl e ↦ rw e refl | inr e ↦ rw e refl ])

misread_made : (a k : ℕ) (h : List Event) → misread_from zeros (made_from a k ++ h) ≡ misread_from zeros h
misread_made a zero h = refl
misread_made a (suc k) h = ap (λ (last : ℕ → ℕ). misread_from last (made_from (suc a) k ++ h)) (still_zeros a) ∙ misread_made (suc a) k h

pub misread_flat : (n : ℕ) (h : Hist) → misread (flat n h) ≡ stale zeros (all h)
misread_flat n h =
    let e : misread_from (words_after zeros (touches h.past)) (pairs h.own) ≡ stale (words_after zeros (touches h.past)) h.own =
    ap (misread_from (words_after zeros (touches h.past))) (sym (append-nil (pairs h.own))) ∙ (let q = misread_pairs (words_after zeros (touches h.past)) h.own [] in omega arith) in
    misread_made 0 n (past_events h.past ++ pairs h.own) ∙ omega (arith, misread_past zeros h.past (pairs h.own), stale_append zeros (touches h.past) h.own, e)

-- the epochs that events tell
abbrev pub bags : List ℕ → List Epoch → List Bags
bags w [] = []
bags w (e ∷ es) = record { got = bag_read e; put = bag_written w e } ∷ bags (writes e.sweep) es

pub bags_length : (w : List ℕ) (es : List Epoch) → length (bags w es) ≡ length es
bags_length w [] = refl
bags_length w (e ∷ es) = ap suc (bags_length (writes e.sweep) es)

abbrev bag : List ℕ → List ℕ → Bags
bag r w = record { got = r; put = w }

epochs_own : (r w x : List ℕ) (ts : List Touch) (h : List Event) → epochs_from false (bag r w) x (pairs ts ++ h) ≡ epochs_from false (bag (r ++ reads ts) (w ++ writes ts)) x h
epochs_own r w x [] h = rw (append-nil r, append-nil w) refl
epochs_own r w x (t ∷ ts) h =
    epochs_own (r ++ record_of t.cell t.got ∷ []) (w ++ record_of t.cell t.put ∷ []) x ts h
    ∙ rw (append_assoc w (record_of t.cell t.put ∷ []) (writes ts), append_assoc r (record_of t.cell t.got ∷ []) (reads ts)) refl

epochs_sweep : (r w x : List ℕ) (ts : List Touch) (h : List Event) → epochs_from true (bag r w) x (pairs ts ++ h) ≡ epochs_from true (bag (r ++ reads ts) w) (x ++ writes ts) h
epochs_sweep r w x [] h = rw (append-nil r, append-nil x) refl
epochs_sweep r w x (t ∷ ts) h =
    epochs_sweep (r ++ record_of t.cell t.got ∷ []) w (x ++ record_of t.cell t.put ∷ []) ts h
    ∙ rw (append_assoc x (record_of t.cell t.put ∷ []) (writes ts), append_assoc r (record_of t.cell t.got ∷ []) (reads ts)) refl

epochs_epoch : (w : List ℕ) (e : Epoch) (h : List Event) → epochs_from false (bag [] w) [] (epoch_events e ++ h) ≡ bag (bag_read e) (bag_written w e) ∷ epochs_from false (bag [] (writes e.sweep)) [] h
epochs_epoch w e h =
    ap (epochs_from false (bag [] w) []) (append_assoc (pairs e.own) (sweep_begins ∷ (pairs e.sweep ++ sweep_ends ∷ [])) h ∙ ap (λ (k : List Event). pairs e.own ++ (sweep_begins ∷ k)) (append_assoc (pairs e.sweep) (sweep_ends ∷ []) h))
    ∙ epochs_own [] w [] e.own (sweep_begins ∷ (pairs e.sweep ++ sweep_ends ∷ h))
    ∙ epochs_sweep (reads e.own) (w ++ writes e.own) [] e.sweep (sweep_ends ∷ h)

epochs_past : (w : List ℕ) (es : List Epoch) (h : List Event) → epochs_from false (bag [] w) [] (past_events es ++ h) ≡ bags w es ++ epochs_from false (bag [] (began w es)) [] h
epochs_past w [] h = refl
epochs_past w (e ∷ es) h =
    ap (epochs_from false (bag [] w) []) (append_assoc (epoch_events e) (past_events es) h)
    ∙ epochs_epoch w e (past_events es ++ h)
    ∙ ap (λ (k : List Bags). bag (bag_read e) (bag_written w e) ∷ k) (epochs_past (writes e.sweep) es h)

epochs_made : (w : List ℕ) (a k : ℕ) (h : List Event) → epochs_from false (bag [] w) [] (made_from a k ++ h) ≡ epochs_from false (bag [] (w ++ made_records a k)) [] h
epochs_made w a zero h = rw (append-nil w) refl
epochs_made w a (suc k) h =
    epochs_made (w ++ record_of a 0 ∷ []) (suc a) k h ∙ rw (append_assoc w (record_of a 0 ∷ []) (made_records (suc a) k)) refl

-- no epoch ends among events without the end of a sweep
epochs_endless : (b : Bool) (e : Bags) (x : List ℕ) (h : List Event) → Endless h → epochs_from b e x h ≡ []
epochs_endless b e x [] k = refl
epochs_endless b e x (did_read a y ∷ h) k = epochs_endless b (bag (e.got ++ record_of a y ∷ []) e.put) x h k
epochs_endless true e x (did_write a y ∷ h) k = epochs_endless true e (x ++ record_of a y ∷ []) h k
epochs_endless false e x (did_write a y ∷ h) k = epochs_endless false (bag e.got (e.put ++ record_of a y ∷ [])) x h k
epochs_endless b e x (sweep_begins ∷ h) k = epochs_endless true e x h k
epochs_endless b e x (sweep_ends ∷ h) k = absurd k

pub epochs_flat : (n : ℕ) (h : Hist) (tail : List Event) → Endless tail → epochs (flat n h ++ tail) ≡ bags (made_records 0 n) h.past
epochs_flat n h tail k =
    let w = made_records 0 n in
    ap epochs (append_assoc (made_from 0 n) (past_events h.past ++ pairs h.own) tail ∙ ap (λ (x : List Event). made_from 0 n ++ x) (append_assoc (past_events h.past) (pairs h.own) tail))
    ∙ epochs_made [] 0 n (past_events h.past ++ (pairs h.own ++ tail))
    ∙ epochs_past w h.past (pairs h.own ++ tail)
    ∙ ap (λ (x : List Bags). bags w h.past ++ x) (epochs_endless false (bag [] (began w h.past)) [] (pairs h.own ++ tail) (endless_append (pairs h.own) tail (endless_pairs h.own) k))
    ∙ append-nil (bags w h.past)

-- where a history is cut at the end of a sweep
tail_of : List Event → List Event
tail_of [] = []
tail_of (e ∷ h) = h

is_end : Event → ℕ
is_end (did_read a x) = 0
is_end (did_write a x) = 0
is_end sweep_begins = 0
is_end sweep_ends = 1

head_is : List Event → ℕ
head_is [] = 2
head_is (e ∷ h) = is_end e

-- no end of a sweep is among endless events
pub none_among : (xs before since : List Event) → Endless xs → xs ≡ before ++ sweep_ends ∷ since → ⊥
unfolding head_is is_end tail_of
none_among [] [] since k e = let z : ◌≡◌ {A = ℕ} 2 1 = ap head_is e in omega arith
none_among [] (y ∷ before) since k e = let z : ◌≡◌ {A = List Event} [] (y ∷ (before ++ sweep_ends ∷ since)) = e in let q : ◌≡◌ {A = ℕ} 0 1 = cc in omega arith
none_among (did_read a x ∷ xs) [] since k e = let z : ◌≡◌ {A = ℕ} 0 1 = ap head_is e in omega arith
none_among (did_write a x ∷ xs) [] since k e = let z : ◌≡◌ {A = ℕ} 0 1 = ap head_is e in omega arith
none_among (sweep_begins ∷ xs) [] since k e = let z : ◌≡◌ {A = ℕ} 0 1 = ap head_is e in omega arith
none_among (sweep_ends ∷ xs) before since k e = absurd k
none_among (did_read a x ∷ xs) (y ∷ before) since k e = none_among xs before since k (ap tail_of e)
none_among (did_write a x ∷ xs) (y ∷ before) since k e = none_among xs before since k (ap tail_of e)
none_among (sweep_begins ∷ xs) (y ∷ before) since k e = none_among xs before since k (ap tail_of e)

-- the cut is at the first end of a sweep, or after it
abbrev First : List Event → List Event → List Event → List Event → Type 0
First xs ys before since =
    (before ≡ xs) ⊎ ((later : List Event) × (before ≡ xs ++ sweep_ends ∷ later) × (ys ≡ later ++ sweep_ends ∷ since))

first_cons : (y : Event) (xs ys before since : List Event) → First xs ys before since → First (y ∷ xs) ys (y ∷ before) since
first_cons y xs ys before since (inl p) = inl (ap (λ (k : List Event). y ∷ k) p)
first_cons y xs ys before since (inr (later, p, q)) = inr (later, ap (λ (k : List Event). y ∷ k) p, q)

first_end : (xs ys before since : List Event) → Endless xs → xs ++ sweep_ends ∷ ys ≡ before ++ sweep_ends ∷ since → First xs ys before since
unfolding head_is is_end tail_of
first_end [] ys [] since k e = inl refl
first_end [] ys (y ∷ before) since k e =
    let h : sweep_ends ≡ y = cc in
    inr (before, ap (λ (z : Event). z ∷ before) (sym h), ap tail_of e)
first_end (did_read a x ∷ xs) ys [] since k e = let z : ◌≡◌ {A = ℕ} 0 1 = ap head_is e in absurd (omega arith)
first_end (did_write a x ∷ xs) ys [] since k e = let z : ◌≡◌ {A = ℕ} 0 1 = ap head_is e in absurd (omega arith)
first_end (sweep_begins ∷ xs) ys [] since k e = let z : ◌≡◌ {A = ℕ} 0 1 = ap head_is e in absurd (omega arith)
first_end (sweep_ends ∷ xs) ys before since k e = absurd k
first_end (did_read a x ∷ xs) ys (y ∷ before) since k e =
    let h : did_read a x ≡ y = cc in
    subst (λ (z : Event). First (did_read a x ∷ xs) ys (z ∷ before) since) h (first_cons (did_read a x) xs ys before since (first_end xs ys before since k (ap tail_of e)))
first_end (did_write a x ∷ xs) ys (y ∷ before) since k e =
    let h : did_write a x ≡ y = cc in
    subst (λ (z : Event). First (did_write a x ∷ xs) ys (z ∷ before) since) h (first_cons (did_write a x) xs ys before since (first_end xs ys before since k (ap tail_of e)))
first_end (sweep_begins ∷ xs) ys (y ∷ before) since k e =
    let h : sweep_begins ≡ y = cc in
    subst (λ (z : Event). First (sweep_begins ∷ xs) ys (z ∷ before) since) h (first_cons sweep_begins xs ys before since (first_end xs ys before since k (ap tail_of e)))

-- the events up to the cut are those of some whole epochs
cut : (p : List Event) (es : List Epoch) (own : List Touch) (before since : List Event) → Endless p → p ++ (past_events es ++ pairs own) ≡ before ++ sweep_ends ∷ since →
    (k : ℕ) × (before ++ sweep_ends ∷ [] ≡ p ++ past_events (take k es))
cut p [] own before since q e = absurd (none_among (p ++ pairs own) before since (endless_append p (pairs own) q (endless_pairs own)) e)
cut p (x ∷ es) own before since q e =
    let inner : List Event = pairs x.own ++ (sweep_begins ∷ pairs x.sweep) in
    let xs : List Event = p ++ inner in
    let rest : List Event = past_events es ++ pairs own in
    let ends : epoch_events x ≡ inner ++ sweep_ends ∷ [] = sym (append_assoc (pairs x.own) (sweep_begins ∷ pairs x.sweep) (sweep_ends ∷ [])) in
    let shape : (h : List Event) → p ++ (epoch_events x ++ h) ≡ xs ++ sweep_ends ∷ h =
    λ h. ap (λ (k : List Event). p ++ (k ++ h)) ends ∙ ap (λ (k : List Event). p ++ k) (append_assoc inner (sweep_ends ∷ []) h) ∙ sym (append_assoc p inner (sweep_ends ∷ h)) in
    let e' : xs ++ sweep_ends ∷ rest ≡ before ++ sweep_ends ∷ since =
    sym (shape rest) ∙ ap (λ (k : List Event). p ++ k) (sym (append_assoc (epoch_events x) (past_events es) (pairs own))) ∙ e in
    let quiet : Endless xs = endless_append p inner q (endless_append (pairs x.own) (sweep_begins ∷ pairs x.sweep) (endless_pairs x.own) (endless_pairs x.sweep)) in
    elim (first_end xs rest before since quiet e') [
      | inl b ↦ (1, ap (λ (k : List Event). k ++ sweep_ends ∷ []) b ∙ sym (shape []))
      | inr r ↦
          let c = cut [] es own r.0 since tt r.2 in
          (suc c.0, ap (λ (k : List Event). k ++ sweep_ends ∷ []) r.1 ∙ append_assoc xs (sweep_ends ∷ r.0) (sweep_ends ∷ []) ∙ ap (λ (k : List Event). xs ++ sweep_ends ∷ k) c.1 ∙ sym (shape (past_events (take c.0 es))))
    ]

-- the sweep that ended there is that of one of the epochs
cut_sweep : (P : Epoch → Type 0) (p : List Event) (es : List Epoch) (q before since : List Event) → Endless p → Endless q → Each P es → p ++ (past_events es ++ q) ≡ before ++ sweep_ends ∷ since →
    (earlier : List Event) × (e : Epoch) × P e × (before ≡ earlier ++ (sweep_begins ∷ pairs e.sweep))
cut_sweep P p [] q before since i j h e = absurd (none_among (p ++ q) before since (endless_append p q i j) e)
cut_sweep P p (x ∷ es) q before since i j h e =
    let inner : List Event = pairs x.own ++ (sweep_begins ∷ pairs x.sweep) in
    let xs : List Event = p ++ inner in
    let rest : List Event = past_events es ++ q in
    let shape : p ++ (epoch_events x ++ rest) ≡ xs ++ sweep_ends ∷ rest =
    ap (λ (k : List Event). p ++ (k ++ rest)) (sym (append_assoc (pairs x.own) (sweep_begins ∷ pairs x.sweep) (sweep_ends ∷ [])))
    ∙ ap (λ (k : List Event). p ++ k) (append_assoc inner (sweep_ends ∷ []) rest) ∙ sym (append_assoc p inner (sweep_ends ∷ rest)) in
    let e' : xs ++ sweep_ends ∷ rest ≡ before ++ sweep_ends ∷ since =
    sym shape ∙ ap (λ (k : List Event). p ++ k) (sym (append_assoc (epoch_events x) (past_events es) q)) ∙ e in
    let quiet : Endless xs = endless_append p inner i (endless_append (pairs x.own) (sweep_begins ∷ pairs x.sweep) (endless_pairs x.own) (endless_pairs x.sweep)) in
    elim (first_end xs rest before since quiet e') [
      | inl b ↦ (p ++ pairs x.own, x, h.0, b ∙ sym (append_assoc p (pairs x.own) (sweep_begins ∷ pairs x.sweep)))
      | inr r ↦
          let c = cut_sweep P [] es q r.0 since tt j h.1 r.2 in
          (xs ++ sweep_ends ∷ c.0, c.1, c.2, r.1 ∙ ap (λ (k : List Event). xs ++ sweep_ends ∷ k) c.3 ∙ sym (append_assoc xs (sweep_ends ∷ c.0) (sweep_begins ∷ pairs c.1.sweep)))
    ]

-- a sweep over the cells from k up to n
sweep_taken : (k n : ℕ) (sw : List Touch) → Sweeps k n sw → (words : List (ℕ × ℕ)) × (k + length words ≡ n) × (pairs sw ≡ taken k words)
sweep_taken k n [] s = ([], omega arith, refl)
sweep_taken k n (t ∷ ts) s =
    let r = sweep_taken (suc k) n ts s.1 in (
      (t.got, t.put) ∷ r.0,
      omega (arith, r.1),
      ap (λ (c : ℕ). did_read c t.got ∷ did_write c t.put ∷ pairs ts) s.0 ∙ ap (λ (h : List Event). did_read k t.got ∷ did_write k t.put ∷ h) r.2,
    )

pub whole_sweep : (n : ℕ) (h : Hist) (tail before since : List Event) → Each (λ e. Sweeps 0 n e.sweep) h.past → Endless tail → flat n h ++ tail ≡ before ++ sweep_ends ∷ since →
    (earlier : List Event) × (words : List (ℕ × ℕ)) × (length words ≡ n) × (before ≡ earlier ++ (sweep_begins ∷ taken 0 words))
whole_sweep n h tail before since s j e =
    let q = pairs h.own ++ tail in
    let e' : made_from 0 n ++ (past_events h.past ++ q) ≡ before ++ sweep_ends ∷ since =
    sym (append_assoc (made_from 0 n) (past_events h.past ++ pairs h.own) tail ∙ ap (λ (x : List Event). made_from 0 n ++ x) (append_assoc (past_events h.past) (pairs h.own) tail)) ∙ e in
    let c = cut_sweep (λ e. Sweeps 0 n e.sweep) (made_from 0 n) h.past q before since (endless_made 0 n) (endless_append (pairs h.own) tail (endless_pairs h.own) j) s e' in
    let r = sweep_taken 0 n c.1.sweep c.2 in
    (c.0, r.0, omega (arith, r.1), c.3 ∙ ap (λ (x : List Event). c.0 ++ (sweep_begins ∷ x)) r.2)

pub misread_cut : (n : ℕ) (h : Hist) (before since : List Event) → flat n h ≡ before ++ sweep_ends ∷ since → (k : ℕ) × (misread before ≡ stale zeros (touches (take k h.past)))
misread_cut n h before since e =
    let c = cut (made_from 0 n) h.past h.own before since (endless_made 0 n) e in
    let es = take c.0 h.past in
    let q = misread_past zeros es [] in
    (c.0, sym (misread_end zeros before) ∙ ap misread c.1 ∙ misread_made 0 n (past_events es) ∙ ap (misread_from zeros) (sym (append-nil (past_events es))) ∙ omega arith)

-- making writes what every cell then holds
made_present : (r a k n : ℕ) → a + k ≡ n → count r (made_records a k) + count r (present zeros a) ≡ count r (present zeros n)
made_present r a zero n e = let q : a ≡ n = omega arith in rw q (omega arith)
made_present r a (suc k) n e = omega (arith, made_present r (suc a) k n (omega arith))

pub made_same : (n : ℕ) → Same (made_records 0 n) (present zeros n)
made_same n r = omega (arith, made_present r 0 n n (omega arith))
