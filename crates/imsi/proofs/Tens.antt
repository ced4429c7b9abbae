-- The table of the powers of ten.
use Rattle.std.proofs.Common.{◌≡◌, ℕ, zero, suc, ◌^◌, ◌≤◌, [], ◌∷◌, get_or, refl, arith}

pub tens_at : (k : ℕ) → k ≤ 15 → get_or (1 ∷ 10 ∷ 100 ∷ 1000 ∷ 10000 ∷ 100000 ∷ 1000000 ∷ 10000000 ∷ 100000000 ∷ 1000000000 ∷ 10000000000 ∷ 100000000000 ∷ 1000000000000 ∷ 10000000000000 ∷ 100000000000000 ∷ 1000000000000000 ∷ []) k 0 ≡ 10 ^ k
tens_at zero h = refl
tens_at (suc zero) h = refl
tens_at (suc (suc zero)) h = refl
tens_at (suc (suc (suc zero))) h = refl
tens_at (suc (suc (suc (suc zero)))) h = refl
tens_at (suc (suc (suc (suc (suc zero))))) h = refl
tens_at (suc (suc (suc (suc (suc (suc zero)))))) h = refl
tens_at (suc (suc (suc (suc (suc (suc (suc zero))))))) h = refl
tens_at (suc (suc (suc (suc (suc (suc (suc (suc zero)))))))) h = refl
tens_at (suc (suc (suc (suc (suc (suc (suc (suc (suc zero))))))))) h = refl
tens_at (suc (suc (suc (suc (suc (suc (suc (suc (suc (suc zero)))))))))) h = refl
tens_at (suc (suc (suc (suc (suc (suc (suc (suc (suc (suc (suc zero))))))))))) h = refl
tens_at (suc (suc (suc (suc (suc (suc (suc (suc (suc (suc (suc (suc zero)))))))))))) h = refl
tens_at (suc (suc (suc (suc (suc (suc (suc (suc (suc (suc (suc (suc (suc zero))))))))))))) h = refl
tens_at (suc (suc (suc (suc (suc (suc (suc (suc (suc (suc (suc (suc (suc (suc zero)))))))))))))) h = refl
tens_at (suc (suc (suc (suc (suc (suc (suc (suc (suc (suc (suc (suc (suc (suc (suc zero))))))))))))))) h = refl
tens_at (suc (suc (suc (suc (suc (suc (suc (suc (suc (suc (suc (suc (suc (suc (suc (suc k)))))))))))))))) h = absurd (omega arith)
