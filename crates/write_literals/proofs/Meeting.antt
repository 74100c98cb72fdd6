-- The search along a chain.
use mathlib.Core.Path.{◌≡◌, sym, ap, ap₂, ◌∙◌}
use mathlib.Core.List.{List, []}
use mathlib.Core.Option.{some}
use Prim.Native.Nat.{ℕ, zero, suc, ◌+◌, ◌-◌, ◌*◌, ◌/◌, ◌%◌, ◌<◌, ◌≤◌, ◌^◌}
use native.Mathlib.Omega.{arith}
use lib.ListN.{length, get_or, length-append}
use Rattle.format.specs.Read.{nth}
use Rattle.laws.specs.Facts.{by-eq, by-lt}
use Rattle.store.specs.Laws.{nth-below}
use Rattle.store.specs.Words.{word, all_of}
use Rattle.write_literals.specs.Store.{Literal, literal-eq}
use Rattle.write_literals.specs.Words.{literal_at, key_at, bucket, bucket_of, key_literals, store_of, head_of, link_of, First, Good, Meets, Sought}
use Rattle.write_literals.specs.Laws.{literals-at, head-none, head-on, head-off}
use Rattle.write_literals.proofs.Places.{bucket-small, leads-next, key-literals-nth, From, key-literals-from}
use Rattle.write_literals.proofs.Chains.{left, left_less}

key-literals-grow : (w : List ℕ) (k g t : ℕ) → g ≤ t → length (key_literals w k g) ≤ length (key_literals w k t)
unfolding key_literals
key-literals-grow w k g zero h = let e : g ≡ 0 = omega arith in rw e (omega arith)
key-literals-grow w k g (suc t) h = by-eq g (suc t)
    (λ e. rw e (omega arith))
    (λ d. let i = key-literals-grow w k g t (omega arith) in simp length-append (omega arith))

-- No literal before `at` is the one that is sought; none at all, where the chain has ended or leads to another bucket.
pub record Seeking (w : List ℕ) (key j high wanted at : ℕ) : Type 0 where
  pub most : at ≤ all_of w
  pub astray : (bucket_of w (at - 1) ≡ bucket key wanted → ⊥) → (g : ℕ) → g < all_of w → Sought w key j high wanted g → ⊥
  pub before : (g : ℕ) → suc g < at → Sought w key j high wanted g → ⊥
  pub none : at ≡ 0 → (g : ℕ) → g < all_of w → Sought w key j high wanted g → ⊥

module _ (w : List ℕ) (good : Good w) (key j high wanted : ℕ) where
  sought-bucket : (g : ℕ) → Sought w key j high wanted g → bucket_of w g ≡ bucket key wanted
  sought-bucket g s = ap₂ (λ (k l : ℕ). bucket k l) s.owned s.whole

  pub seeking-start : {b r : ℕ} → b ≡ bucket key wanted → (r ≤ all_of w) × (link_of w b 0 ≡ head_of w b r) → Seeking w key j high wanted r
  seeking-start {b} {r} eb (most, leads) =
      record {
        most = most;
        astray = λ d g l s. no_one (head-off w (bucket key wanted) r d) g l s;
        before = λ g l s. by-eq (bucket_of w (r - 1)) (bucket key wanted)
            (λ e. (rw (head-on w (bucket key wanted) r (omega arith) most e) at first).before g (omega arith) l (sought-bucket g s))
            (λ d. no_one (head-off w (bucket key wanted) r d) g (omega arith) s);
        none = λ z g l s. no_one (ap (head_of w (bucket key wanted)) z ∙ head-none w (bucket key wanted)) g l s;
      }
    where
      first : First w (bucket key wanted) 0 (all_of w) (head_of w (bucket key wanted) r)
      first = rw (rw eb at leads) at (good.literals.linked (bucket key wanted) 0 (bucket-small key wanted) (omega arith) (λ h e. absurd (omega arith)))

      no_one : head_of w (bucket key wanted) r ≡ 0 → (g : ℕ) → g < all_of w → Sought w key j high wanted g → ⊥
      no_one z g l s = first.none z g (omega arith) l (sought-bucket g s)

  module _ {at : ℕ} (s : Seeking w key j high wanted at) (d : at ≡ 0 → ⊥) where
    abbrev here : ℕ
    here = at - 1

    -- where the literal stands
    pub cell-is : 4096 - 3 + 3 * at ≡ 4096 + 3 * here
    cell-is = omega arith

    next-first : {link : ℕ} → bucket_of w here ≡ bucket key wanted → link ≡ word w (4096 - 3 + 3 * at + 2) → First w (bucket key wanted) at (all_of w) (link % 8192)
    next-first {link} o e =
        let m = s.most in
        let a : 4095 + 3 * at ≡ 4096 - 3 + 3 * at + 2 = omega arith in
        let q : link % 8192 ≡ link_of w (bucket key wanted) at = ap (λ (m : ℕ). m % 8192) (e ∙ ap (λ (i : ℕ). word w i) (sym a)) ∙ sym (leads-next w (bucket key wanted) at (omega arith)) in
        rw q (good.literals.linked (bucket key wanted) at (bucket-small key wanted) m (λ g z. let y : g ≡ here = omega arith in rw y o))

    module _ {link : ℕ} (on : bucket_of w here ≡ bucket key wanted) (e : link ≡ word w (4096 - 3 + 3 * at + 2)) where
      pub seeking-more : (Sought w key j high wanted here → ⊥) → Seeking w key j high wanted (link % 8192)
      seeking-more o =
          let f = next-first on e in
          record {
            most = f.most;
            astray = λ d g l t. by-eq (link % 8192) 0
                (λ z. passed g t (λ h. f.none z g h l))
                (λ p. d (f.here (link % 8192 - 1) (omega arith)));
            before = λ g l t. passed g t (λ h. f.before g h l);
            none = λ z g l t. passed g t (λ h. f.none z g h l);
          }
        where
          passed : (g : ℕ) → Sought w key j high wanted g → (at ≤ g → bucket_of w g ≡ bucket key wanted → ⊥) → ⊥
          passed g t f = by-lt g here
              (λ l. s.before g (omega arith) t)
              (λ l. by-eq g here (λ q. o (rw q at t)) (λ q. f (omega arith) (sought-bucket g t)))

      pub seeking-less : left (all_of w) (link % 8192) < left (all_of w) at
      seeking-less = let f = next-first on e in left_less (all_of w) at (link % 8192) d s.most f.most f.least

    -- the words of the literal
    module _ {first second link : ℕ} (ef : first ≡ word w (4096 - 3 + 3 * at)) (es : second ≡ word w (4096 - 3 + 3 * at + 1)) (el : link ≡ word w (4096 - 3 + 3 * at + 2)) where
      first-at : first ≡ word w (4096 + 3 * here)
      first-at = ef ∙ ap (λ (a : ℕ). word w a) cell-is

      second_at : second ≡ word w (4096 + 3 * here + 1)
      second_at = es ∙ ap (λ (a : ℕ). word w (a + 1)) cell-is

      link_at : link ≡ word w (4096 + 3 * here + 2)
      link_at = el ∙ ap (λ (a : ℕ). word w (a + 2)) cell-is

      pub sought-not : (second ≡ wanted → first / 131072 ≡ high → link / 8192 / 4096 ≡ key → j ≤ link / 8192 % 4096 → ⊥) → Sought w key j high wanted here → ⊥
      sought-not f t = f (second_at ∙ t.whole) (ap (λ (a : ℕ). a / 131072) first-at ∙ t.upper) (ap (λ (a : ℕ). a / 8192 / 4096) link_at ∙ t.owned) (rw link_at t.from)

      pub meets-found : ((a : ℕ) → word w a < 2 ^ 32) → key < 32 → second ≡ wanted → first / 131072 ≡ high → link / 8192 / 4096 ≡ key → j ≤ link / 8192 % 4096
          → (link / 8192 % 4096 < length (get_or (store_of w).literals key [])) × Meets (get_or (store_of w).literals key []) j high wanted (link / 8192 % 4096) first
      meets-found bits hk s₁ s₂ s₃ s₄ =
          let m = s.most in
          let k : key_at w here ≡ key = ap (λ (a : ℕ). a / 8192 / 4096) (sym link_at) ∙ s₃ in
          let n : link / 8192 % 4096 ≡ length (key_literals w key here) =
          ap (λ (a : ℕ). a / 8192 % 4096) link_at ∙ good.literals.numbered here (omega arith) ∙ ap (λ (i : ℕ). length (key_literals w i here)) k in
          let p : literal_at w here ≡ record { first = first; second = wanted } = literal-eq (sym first-at) (sym second_at ∙ s₁) in
          let y : nth (key_literals w key (all_of w)) (link / 8192 % 4096) ≡ some (record { first = first; second = wanted }) =
          rw n (rw k at (key-literals-nth w here (all_of w) (omega arith))) ∙ ap some p in
          let b = nth-below (key_literals w key (all_of w)) (link / 8192 % 4096) y in
          rw (literals-at w key hk) (
            b,
            record {
              least = s₄;
              most = omega arith;
              passed = λ i x h l e q u. earlier n i x h l (key-literals-from w key (all_of w) i x e) q u;
              small = λ i x e. small_one i x bits (key-literals-from w key (all_of w) i x e);
              here = λ h. (y, s₂);
            },
          )
        where
          small_one : (i : ℕ) (x : Literal) → ((a : ℕ) → word w a < 2 ^ 32) → From w key (all_of w) i x → x.second < 2 ^ 32
          small_one i x bits f = rw (ap (λ (p : Literal). p.second) f.is) at (bits (4096 + 3 * f.g + 1))

          earlier : link / 8192 % 4096 ≡ length (key_literals w key here) → (i : ℕ) (x : Literal) → j ≤ i → i < link / 8192 % 4096 → From w key (all_of w) i x → x.second ≡ wanted → x.first / 131072 ≡ high → ⊥
          earlier n i x h l f q u =
              let y = f.number in
              let o = by-lt f.g here (λ z. z) (λ z. absurd (let r = key-literals-grow w key here f.g z in omega arith)) in
              s.before f.g (omega arith) (record {
                owned = f.owned;
                from = rw (good.literals.numbered f.g f.below, f.owned, ← y) h;
                whole = ap (λ (p : Literal). p.second) f.is ∙ q;
                upper = ap (λ (p : Literal). p.first / 131072) f.is ∙ u;
              })

  -- the chain has ended
  module _ (hk : key < 32) (hj : j ≤ length (get_or (store_of w).literals key [])) (bits : (a : ℕ) → word w a < 2 ^ 32) where
    small_any : (i : ℕ) (x : Literal) → nth (get_or (store_of w).literals key []) i ≡ some x → x.second < 2 ^ 32
    small_any i x e =
        let f = key-literals-from w key (all_of w) i x (rw (literals-at w key hk) at e) in
        rw (ap (λ (p : Literal). p.second) f.is) at (bits (4096 + 3 * f.g + 1))

    pub meets-none : ((g : ℕ) → g < all_of w → Sought w key j high wanted g → ⊥) → Meets (get_or (store_of w).literals key []) j high wanted (length (get_or (store_of w).literals key [])) 0
    meets-none s = record {
      least = omega arith;
      most = omega arith;
      passed = λ i x h l e q u.
          let f = key-literals-from w key (all_of w) i x (rw (literals-at w key hk) at e) in
          let y = f.number in
          s f.g f.below (record {
            owned = f.owned;
            from = rw (good.literals.numbered f.g f.below, f.owned, ← y) h;
            whole = ap (λ (p : Literal). p.second) f.is ∙ q;
            upper = ap (λ (p : Literal). p.first / 131072) f.is ∙ u;
          });
      small = small_any;
      here = λ h. absurd (omega arith);
    }
