-- What the table of codes says of two types, and greatest lower bounds part by part. Assumes nothing.
use mathlib.Core.Path.{◌≡◌, refl}
use mathlib.Core.Bool.{decide}
use mathlib.Core.Option.{Option, none, some, map, Option-elim, bind, some_inj, none-ne-some}
use Rattle.types.specs.Forest.{within, under, lower_of}
use Rattle.types.specs.Types.{Message, Basic, Cipher, Pair, meet}
use Rattle.types.specs.Version1.{T, types1, name, channel, shkey, shared, parent1, depth1}
use Rattle.type_bytes.specs.Meets.{how_of}
use Rattle.type_bytes.specs.declared.How.{How}
use Rattle.type_bytes.specs.declared.How.TheVariants.{Second, First, Apart, Pairs, Ciphertexts}
use Rattle.type_bytes.proofs.EndLaws.{tag}

pub data HowIs : T → T → How → Type 0 where
  second : {t u : T} → meet types1 t u ≡ some u → HowIs t u Second
  first : {t u : T} → meet types1 t u ≡ some t → HowIs t u First
  apart : {t u : T} → meet types1 t u ≡ none → HowIs t u Apart
  pairs : {a b c d : T} → HowIs (Pair a b) (Pair c d) Pairs
  ciphers : {a c : T} → HowIs (Cipher shared a) (Cipher shared c) Ciphertexts

pub how_is : (t u : T) → HowIs t u (how_of (tag t) (tag u))
unfolding how_of tag meet lower_of under within parent1 depth1 decide Option-elim
how_is Message Message = second refl
how_is Message (Basic name) = second refl
how_is Message (Basic channel) = second refl
how_is Message (Basic shkey) = second refl
how_is Message (Pair c d) = second refl
how_is Message (Cipher shared c) = second refl
how_is (Basic name) Message = first refl
how_is (Basic name) (Basic name) = second refl
how_is (Basic name) (Basic channel) = second refl
how_is (Basic name) (Basic shkey) = second refl
how_is (Basic name) (Pair c d) = apart refl
how_is (Basic name) (Cipher shared c) = apart refl
how_is (Basic channel) Message = first refl
how_is (Basic channel) (Basic name) = first refl
how_is (Basic channel) (Basic channel) = second refl
how_is (Basic channel) (Basic shkey) = apart refl
how_is (Basic channel) (Pair c d) = apart refl
how_is (Basic channel) (Cipher shared c) = apart refl
how_is (Basic shkey) Message = first refl
how_is (Basic shkey) (Basic name) = first refl
how_is (Basic shkey) (Basic channel) = apart refl
how_is (Basic shkey) (Basic shkey) = second refl
how_is (Basic shkey) (Pair c d) = apart refl
how_is (Basic shkey) (Cipher shared c) = apart refl
how_is (Pair a b) Message = first refl
how_is (Pair a b) (Basic name) = apart refl
how_is (Pair a b) (Basic channel) = apart refl
how_is (Pair a b) (Basic shkey) = apart refl
how_is (Pair a b) (Pair c d) = pairs
how_is (Pair a b) (Cipher shared c) = apart refl
how_is (Cipher shared a) Message = first refl
how_is (Cipher shared a) (Basic name) = apart refl
how_is (Cipher shared a) (Basic channel) = apart refl
how_is (Cipher shared a) (Basic shkey) = apart refl
how_is (Cipher shared a) (Pair c d) = apart refl
how_is (Cipher shared a) (Cipher shared c) = ciphers

-- ── Where one of the two is the bound, or there is none ──

pub in_second : {t u : T} {h : How} → HowIs t u h → h ≡ Second → meet types1 t u ≡ some u
in_second (second q) e = q
in_second (first q) e = cc
in_second (apart q) e = cc
in_second pairs e = cc
in_second ciphers e = cc

pub in_first : {t u : T} {h : How} → HowIs t u h → h ≡ First → meet types1 t u ≡ some t
in_first (first q) e = q
in_first (second q) e = cc
in_first (apart q) e = cc
in_first pairs e = cc
in_first ciphers e = cc

pub in_apart : {t u : T} {h : How} → HowIs t u h → h ≡ Apart → meet types1 t u ≡ none
in_apart (apart q) e = q
in_apart (second q) e = cc
in_apart (first q) e = cc
in_apart pairs e = cc
in_apart ciphers e = cc

-- ── Where it goes part by part ──

pub in_pairs : {t u : T} {h : How} → HowIs t u h → h ≡ Pairs → (P : T → T → Type 0) → ((a b c d : T) → P (Pair a b) (Pair c d)) → P t u
in_pairs (pairs {a = a} {b = b} {c = c} {d = d}) e P f = f a b c d
in_pairs (second q) e P f = absurd cc
in_pairs (first q) e P f = absurd cc
in_pairs (apart q) e P f = absurd cc
in_pairs ciphers e P f = absurd cc

pub in_ciphers : {t u : T} {h : How} → HowIs t u h → h ≡ Ciphertexts → (P : T → T → Type 0) → ((a c : T) → P (Cipher shared a) (Cipher shared c)) → P t u
in_ciphers (ciphers {a = a} {c = c}) e P f = f a c
in_ciphers (second q) e P f = absurd cc
in_ciphers (first q) e P f = absurd cc
in_ciphers (apart q) e P f = absurd cc
in_ciphers pairs e P f = absurd cc

-- ── Pairs ──

pair_some : (o v : Option T) (c : T) → bind o (λ x. map (Pair x) v) ≡ some c → (l : T) × (r : T) × (o ≡ some l) × (v ≡ some r) × (Pair l r ≡ c)
unfolding bind
pair_some none v c e = absurd (none-ne-some c e)
pair_some (some l) none c e = absurd (none-ne-some c e)
pair_some (some l) (some r) c e = (l, r, refl, refl, some_inj.0 e)

pub pairs_some : (a b c d e : T) → meet types1 (Pair a b) (Pair c d) ≡ some e → (l : T) × (r : T) × (meet types1 a c ≡ some l) × (meet types1 b d ≡ some r) × (Pair l r ≡ e)
unfolding meet
pairs_some a b c d e q = pair_some (meet types1 a c) (meet types1 b d) e q

pub some_pairs : (a b c d : T) {l r : T} → meet types1 a c ≡ some l → meet types1 b d ≡ some r → meet types1 (Pair a b) (Pair c d) ≡ some (Pair l r)
unfolding meet bind
some_pairs a b c d e f = rw (e, f)

-- ── Ciphertexts ──

cipher_some : (o : Option T) (c : T) → map (Cipher shared) o ≡ some c → (l : T) × (o ≡ some l) × (Cipher shared l ≡ c)
cipher_some none c e = absurd (none-ne-some c e)
cipher_some (some l) c e = (l, refl, some_inj.0 e)

pub ciphers_some : (a c e : T) → meet types1 (Cipher shared a) (Cipher shared c) ≡ some e → (l : T) × (meet types1 a c ≡ some l) × (Cipher shared l ≡ e)
unfolding meet decide
ciphers_some a c e q = cipher_some (meet types1 a c) e q

pub some_ciphers : (a c : T) {l : T} → meet types1 a c ≡ some l → meet types1 (Cipher shared a) (Cipher shared c) ≡ some (Cipher shared l)
unfolding meet decide
some_ciphers a c e = rw e
