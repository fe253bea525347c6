-- The cells of the words that specs/Words.antt does not name, for proofs: `rules::words_agree` has the code's constants as the cells of these words.
use Prim.Native.Nat.{ℕ}

abbrev pub dash_word : ℕ
dash_word = 100000

abbrev pub reg_word : ℕ
reg_word = 100002

abbrev pub class_word : ℕ
class_word = 100003

abbrev pub group_word : ℕ
group_word = 100004

abbrev pub value_word : ℕ
value_word = 100005

abbrev pub vgroup_word : ℕ
vgroup_word = 100006

abbrev pub block_word : ℕ
block_word = 100007

abbrev pub succ_word : ℕ
succ_word = 100008

abbrev pub pred_word : ℕ
pred_word = 100009

abbrev pub param_word : ℕ
param_word = 100010

abbrev pub op_word : ℕ
op_word = 100011

abbrev pub clob_word : ℕ
clob_word = 100012

abbrev pub edit_word : ℕ
edit_word = 100013

abbrev pub defg_word : ℕ
defg_word = 100017

abbrev pub useg_word : ℕ
useg_word = 100018

abbrev pub earlyg_word : ℕ
earlyg_word = 100019

abbrev pub fixed_word : ℕ
fixed_word = 100020
