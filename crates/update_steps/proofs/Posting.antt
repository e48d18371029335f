-- The posts of an update, one after the other.
-- Assumes nothing.
use mathlib.Core.Path.{◌≡◌, refl, sym, ap, ◌∙◌}
use Prim.Native.Nat.{ℕ, zero, suc, ◌+◌, ◌-◌, ◌%◌, ◌≤◌, ◌<◌, ◌/◌}
use native.Mathlib.Omega.{arith}
use Rattle.journal_post.specs.Posts.{Journal, after_post, after_posts, Posting}
use Rattle.update_steps.specs.Update.{pick, change_at, changes_from, updated, code, table, limits, posting, reason_at}
use mathlib.Core.List.{List}
use Rattle.volume.specs.Calls.{Outcome}
use Rattle.journal_post.specs.Post.{post_outcome, post_ring}

module _ (j whole : Journal) (i to : ℕ) (inv : updated j i to ≡ whole) where
  -- a turn of the loop
  pub updated_next : (k : Journal) → i < to → k ≡ after_post j (change_at (i % 9)) → updated k (i + 1) to ≡ whole
  updated_next k h q =
      let e : to - i ≡ suc (to - (i + 1)) = omega arith in
      let d : i + 1 ≡ suc i = omega arith in
      ap (λ (n : ℕ). after_posts k (changes_from n (to - (i + 1)))) d
      ∙ ap (λ (x : Journal). after_posts x (changes_from (suc i) (to - (i + 1)))) q
      ∙ sym (ap (λ (n : ℕ). after_posts j (changes_from i n)) e)
      ∙ inv

  -- the end of the loop
  pub updated_end : to ≤ i → j ≡ whole
  updated_end h = let e : to - i ≡ 0 = omega arith in sym (ap (λ (n : ℕ). after_posts j (changes_from i n)) e) ∙ inv

-- the last of three
pub last {ℓ} : {A : Type ℓ} (n : ℕ) (a b c : A) → 2 ≤ n → c ≡ pick n a b c
last zero a b c h = absurd (omega arith)
last (suc zero) a b c h = absurd (omega arith)
last (suc (suc n)) a b c h = refl

-- what a post answers and leaves is the journal after it
pub posted : (j : Journal) (p : Posting) (o : Outcome) (s : List ℕ) → o ≡ post_outcome j.volume j.ring p.change p.name
    → s ≡ post_ring j.volume j.ring p.change p.name → record { volume = o.volume; ring = s } ≡ after_post j p
posted j p o s e q =
    ap (λ (x : Outcome). record { volume = x.volume; ring = s }) e
    ∙ ap (λ (l : List ℕ). record { volume = (post_outcome j.volume j.ring p.change p.name).volume; ring = l }) q

-- the post of a change's file, Reason and name
pub change-posted : (j k : Journal) (i file reason : ℕ) (name : List ℕ) → k ≡ after_post j (posting file reason name) → reason ≡ reason_at i
    → file ≡ pick (i / 3) 41 42 43 → name ≡ pick (i / 3) code table limits → k ≡ after_post j (change_at i)
change-posted j k i file reason name q r f n =
    q ∙ ap (λ (x : ℕ). after_post j (posting x reason name)) f ∙ ap (λ (x : ℕ). after_post j (posting (pick (i / 3) 41 42 43) x name)) r
    ∙ ap (λ (x : List ℕ). after_post j (posting (pick (i / 3) 41 42 43) (reason_at i) x)) n
