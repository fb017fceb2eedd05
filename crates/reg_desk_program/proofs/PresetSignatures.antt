-- An office with a preset signature.

-- no clause states what a socket returned, so it may have returned anything
pub given_anyhow : ∥ Unit {0} ∥₁
given_anyhow = ∣ tt ∣₁
