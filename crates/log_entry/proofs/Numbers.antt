-- Numbers as four and as eight bytes.
use Rattle.std.proofs.Common.{◌≡◌, ℕ, ◌<◌, ◌^◌, List, length, get_or, refl, sym, ◌∙◌, ap}
use Rattle.std.specs.Int.{from_le_bytes, w32, w64}
use Rattle.std.proofs.lemmas.Nat.{le_bytes_4, le_bytes_8, from_le_bytes-to_le_bytes_4, from_le_bytes-to_le_bytes_8}
use Rattle.log_entry.specs.EntryText.{le32, le64}

pub length-le32 : (n : ℕ) → length (le32 n) ≡ 4
unfolding le32
length-le32 n = refl

pub length-le64 : (n : ℕ) → length (le64 n) ≡ 8
unfolding le64
length-le64 n = refl

pub le32_of : (bytes : List ℕ) (n : ℕ) → length bytes ≡ 4 → ((i : ℕ) → get_or bytes i 0 < 256) → n ≡ from_le_bytes w32 bytes → le32 n ≡ bytes
unfolding le32
le32_of bytes n = le_bytes_4 bytes n

pub le64_of : (bytes : List ℕ) (n : ℕ) → length bytes ≡ 8 → ((i : ℕ) → get_or bytes i 0 < 256) → n ≡ from_le_bytes w64 bytes → le64 n ≡ bytes
unfolding le64
le64_of bytes n = le_bytes_8 bytes n

from-le32 : (n : ℕ) → n < 2 ^ 32 → from_le_bytes w32 (le32 n) ≡ n
unfolding le32
from-le32 n small = from_le_bytes-to_le_bytes_4 n small

from-le64 : (n : ℕ) → n < 2 ^ 64 → from_le_bytes w64 (le64 n) ≡ n
unfolding le64
from-le64 n small = from_le_bytes-to_le_bytes_8 n small

pub le32_same : (m n : ℕ) → m < 2 ^ 32 → n < 2 ^ 32 → le32 m ≡ le32 n → m ≡ n
le32_same m n small also is = sym (from-le32 m small) ∙ ap (from_le_bytes w32) is ∙ from-le32 n also

pub le64_same : (m n : ℕ) → m < 2 ^ 64 → n < 2 ^ 64 → le64 m ≡ le64 n → m ≡ n
le64_same m n small also is = sym (from-le64 m small) ∙ ap (from_le_bytes w64) is ∙ from-le64 n also
