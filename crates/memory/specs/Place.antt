-- Places of words: so many from an address on.
use Rattle.std.specs.Prelude.{◌≡◌, ℕ, ◌+◌, ◌≤◌, ◌⊎◌, List, [], ◌∷◌, ◌==◌, slice_index}
use Rattle.language.specs.Base.{choose}

-- so many words from an address on
pub record Place : Type 0 where
  pub at : ℕ
  pub size : ℕ

abbrev pub place : ℕ → ℕ → Place
place a k = record { at = a; size = k }

abbrev pub Apart : Place → Place → Type 0
Apart x y = (x.at + x.size ≤ y.at) ⊎ (y.at + y.size ≤ x.at)

abbrev pub ApartAll : Place → List Place → Type 0
ApartAll x [] = Unit {0}
ApartAll x (y ∷ ys) = Apart x y × ApartAll x ys

-- no two have a word in common
abbrev pub Disjoint : List Place → Type 0
Disjoint [] = Unit {0}
Disjoint (x ∷ xs) = ApartAll x xs × Disjoint xs

-- each has a word at least, and lies below top
abbrev pub Under : ℕ → List Place → Type 0
Under top [] = Unit {0}
Under top (x ∷ xs) = (1 ≤ x.size) × (x.at + x.size ≤ top) × Under top xs

abbrev pub total : List Place → ℕ
total [] = 0
total (x ∷ xs) = x.size + total xs

-- the addresses of those of one size
abbrev pub of_size : ℕ → List Place → List ℕ
of_size k [] = []
of_size k (x ∷ xs) = choose (x.size == k) (x.at ∷ of_size k xs) (of_size k xs)

-- all but the first of that size
abbrev pub but_first : ℕ → List Place → List Place
but_first k [] = []
but_first k (x ∷ xs) = choose (x.size == k) xs (x ∷ but_first k xs)

abbrev pub first_or : ℕ → List ℕ → ℕ
first_or d [] = d
first_or d (a ∷ as₁) = a

-- free places that are linked: each has in its first word the next one's address and 1, or 0
abbrev pub Chain : List ℕ → ℕ → List ℕ → Type 0
Chain ws h [] = h ≡ 0
Chain ws h (a ∷ as₁) = (h ≡ a + 1) × Chain ws (slice_index ws a) as₁
